-- `job::turns::check_turn`: 19, 20, then what is lent.
use mathlib.Core.Path.{sym, ◌∙◌}
use Rattle.job.proofs.Turning.{fit_live}
use Rattle.job.proofs.turns.check_turn.Goals as goal

pub check_lent-requires : goal.check_lent-requires
check_lent-requires c =
    (fit_live _ (sym c.is_fit.ensures ∙ c.if-not-is_fit.false) (sym c.is_ended.ensures ∙ c.if-is_ended.false)).sized
