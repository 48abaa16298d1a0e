-- `evaluate::hat_diagonal` meets its contract: the loop's sum is the fold of `quad_step` up to p; then the own weight.
use borrow.Author.Rules.{rules}
use Rattle.real.proofs.Fold.{more}
use Rattle.evaluate.specs.Evaluate.{quad_step}
use Rattle.evaluate.proofs.hat_diagonal.Goals as goal

pub loop-p-preserved : goal.loop-p-preserved
unfolding quad_step
loop-p-preserved c = more c.loop-p.invariant (search rules) (rw c.inverse_times.ensures)
