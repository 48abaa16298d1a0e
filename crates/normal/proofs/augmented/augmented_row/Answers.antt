-- `normal::augmented::augmented_row` meets its contract: the loop's row is the fold of `mirror_step` up to q; then the identity's cell.
use borrow.Author.Rules.{rules}
use mathlib.Core.Path.{refl}
use lib.Ieee.{nan}
use Rattle.real.proofs.Fronts.{untouched, changed}
use Rattle.normal.specs.Augmented.{mirrored_cell, mirror_step}
use Rattle.normal.proofs.augmented.augmented_row.Goals as goal

pub loop-q-init : goal.loop-q-init
loop-q-init c = untouched _ _

pub loop-q-preserved : goal.loop-q-preserved
unfolding mirror_step
loop-q-preserved c = changed (λ k x. mirrored_cell c.args.a.now c.args.p k) nan (λ k s. refl) c.loop-q.cell-items _ _ c.loop-q.invariant (search rules) (search rules) c.mirrored_cell.ensures
