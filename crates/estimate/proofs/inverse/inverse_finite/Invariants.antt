-- `estimate::inverse::inverse_finite` meets its contract: the loop's answer is the fold over the rows so far.
use mathlib.Core.Bool.{true}
use Rattle.real.proofs.Fold.{Range}
use Rattle.estimate.specs.Inverse.{all_step, inverse_row_finite}
use Rattle.estimate.proofs.inverse.inverse_finite.Given as goal

abbrev pub invariant-loop-p : goal.invariant-loop-p
invariant-loop-p l = Range (all_step (inverse_row_finite l.a l.m)) true 0 l.m l.p l.good
