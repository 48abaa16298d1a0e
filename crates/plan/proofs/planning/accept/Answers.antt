-- `plan::accept` meets its contract, case by case.
use mathlib.Core.Path.{sym, ◌∙◌}
use Rattle.setup.specs.Data.{trusted_data}
use Rattle.input.proofs.Accepted.{input_accepted}
use Rattle.plan.proofs.planning.accept.Goals as goal

pub plan_options-requires : goal.plan_options-requires
plan_options-requires c =
    let checked = rw (← c.columns.view_is) at c.check_input.ensures in
    let a = (input_accepted (trusted_data _ _ _ _) _ _ _ (sym checked ∙ c.in_ok-check_input.was)).shaped in record { lengths = a.places; sized = a.sized }
