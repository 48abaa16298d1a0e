-- `starting::begin`: by what is said of the input; an accepted one has sizes in range.
use mathlib.Core.Path.{refl, sym, ap, ◌∙◌}
use Rattle.std.specs.Prelude.{Ok}
use Rattle.checks.proofs.Tests.{handed_on}
use Rattle.setup.specs.Data.{trusted_data}
use Rattle.plan.proofs.Planned.{accept_planned}
use Rattle.starting.proofs.Begins.{begin_is}
use Rattle.starting.proofs.begin.Goals as goal

pub start-requires : goal.start-requires
start-requires c =
    let accepted = rw (← c.columns.view_is) at c.accept.ensures in
    (accept_planned (trusted_data _ _ _ _) _ _ _ (sym accepted ∙ c.in_ok-plan.was)).accepted.shaped.sized
