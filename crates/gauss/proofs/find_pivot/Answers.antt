-- `gauss::find_pivot` meets its contract.
use borrow.Author.Rules.{rules}
use Rattle.real.proofs.Fold.{more}
use Rattle.gauss.specs.Gauss.{pivot_of, cell}
use Rattle.gauss.proofs.find_pivot.Goals as goal

pub loop-k-preserved : goal.loop-k-preserved
unfolding pivot_of cell
loop-k-preserved c = more c.loop-k.invariant (search rules) c.better-p.ensures
