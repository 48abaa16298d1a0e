-- `estimate::under_into` meets its contract: by what elimination came to, and then the coefficients.
use mathlib.Core.Path.{◌∙◌, ap}
use Prim.Native.Nat.{◌+◌}
use Rattle.std.specs.Prelude.{Result}
use Rattle.refusal.specs.declared.Refusal.{Refusal}
use Rattle.checks.proofs.Tests.{handed_on}
use Rattle.gauss.specs.Gauss.{eliminated}
use Rattle.estimate.specs.Inverse.{inversion, invert_matrix}
use Rattle.estimate.specs.Estimate.{none_of, eliminated_of, elimination_of, coefficients_under}
use Rattle.estimate.proofs.Lent.{singular, refused, found}
use Rattle.estimate.proofs.under_into.Goals as goal

pub returns-in_err-into-in-Ok : goal.returns-in_err-into-in-Ok
unfolding coefficients_under eliminated_of elimination_of invert_matrix inversion eliminated
returns-in_err-into-in-Ok c =
    ap (λ (r : Result (Unit {0}) Refusal). (r, none_of c.in-Ok.eliminated)) (handed_on c.from_residual.ensures)
    ∙ refused _ _ _ _ c.in-Ok.ensures c.in_err-into-in-Ok.ensures
    ∙ rw (c.equations_of-e.ensures, c.setup-m.ensures.setup)

pub returns-in_ok-into-in-Ok : goal.returns-in_ok-into-in-Ok
unfolding coefficients_under eliminated_of elimination_of invert_matrix inversion eliminated
returns-in_ok-into-in-Ok c = found _ _ _ _ c.in-Ok.ensures c.in_ok-into-in-Ok.ensures ∙ rw (c.equations_of-e.ensures, c.setup-m.ensures.setup)

-- A is singular
pub returns-in-Err : goal.returns-in-Err
unfolding coefficients_under eliminated_of elimination_of invert_matrix inversion eliminated
returns-in-Err c = singular _ c.equations_of-e.result.rhs (c.setup-m.result.p + 1) _ c.in-Err.ensures ∙ rw (c.equations_of-e.ensures, c.setup-m.ensures.setup)
