-- `estimate::coefficients_of` meets its contract: the loop's cells, with the others behind them, are the fold of `coefficient_step` up to p.
use mathlib.Core.List.{◌++◌}
use lib.ListN.{drop, replicate}
use Rattle.real.specs.Reals.{zero64}
use Rattle.real.proofs.Fold.{Range}
use Rattle.estimate.specs.Estimate.{coefficient_step}
use Rattle.estimate.proofs.coefficients_of.Given as goal

abbrev pub invariant-loop-p : goal.invariant-loop-p
invariant-loop-p l = Range (coefficient_step l.a l.rhs l.m) (replicate 8 zero64) 0 l.m l.p (l.b-items ++ drop l.m (replicate 8 zero64))
