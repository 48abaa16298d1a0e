-- `evaluate::hat_diagonal` meets its contract: the loop's sum is the fold of `quad_step` up to p; then the own weight.
use Rattle.real.proofs.Fold.{Range}
use Rattle.real.specs.Reals.{zero64}
use Rattle.evaluate.specs.Evaluate.{quad_step}
use Rattle.evaluate.proofs.hat_diagonal.Given as goal

abbrev pub invariant-loop-p : goal.invariant-loop-p
invariant-loop-p l = Range (quad_step l.inverse l.row l.m) zero64 0 l.m l.p l.quad
