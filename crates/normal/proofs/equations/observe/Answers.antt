-- `normal::equations::observe` meets its contract: the first row apart, then the loop is the fold of `observe_step` from row 1 on.
use borrow.Author.Rules.{rules}
use Rattle.real.proofs.Fold.{more}
use Rattle.normal.specs.Equations.{observe_step}
use Rattle.normal.proofs.DesignCells.{own_next}
use Rattle.normal.proofs.equations.observe.Goals as goal

pub loop-q-preserved : goal.loop-q-preserved
unfolding observe_step
loop-q-preserved c =
    more c.loop-q.invariant (search rules) (rw (c.add_row.ensures, own_next c.args.own.now c.loop-q.q (search rules) (search rules)))
