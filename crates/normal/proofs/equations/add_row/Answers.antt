-- `normal::equations::add_row` meets its contract: the loop's row is the fold of `cell_step` from the diagonal on.
use borrow.Author.Rules.{rules}
use Rattle.real.proofs.Fold.{more}
use Rattle.normal.specs.Equations.{cell_step}
use Rattle.normal.proofs.DesignCells.{own_next}
use Rattle.normal.proofs.equations.add_row.Goals as goal

pub loop-q-preserved : goal.loop-q-preserved
unfolding cell_step
loop-q-preserved c = more c.loop-q.invariant (search rules) (rw (own_next c.args.own.now c.loop-q.q (search rules) (search rules)))
