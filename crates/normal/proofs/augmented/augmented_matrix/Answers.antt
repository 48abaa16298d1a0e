-- `normal::augmented::augmented_matrix` meets its contract: the loop's matrix is the fold of `augment_step` up to p.
use borrow.Author.Rules.{rules}
use mathlib.Core.Path.{refl}
use mathlib.Core.List.{[]}
use Rattle.real.proofs.Fronts.{untouched, changed}
use Rattle.normal.specs.Augmented.{augmented_row, augment_step}
use Rattle.normal.proofs.augmented.augmented_matrix.Goals as goal

pub loop-p-init : goal.loop-p-init
loop-p-init c = untouched _ _

pub loop-p-preserved : goal.loop-p-preserved
unfolding augment_step
loop-p-preserved c = changed (λ k x. augmented_row c.args.a.now c.args.m k) [] (λ k s. refl) c.loop-p.row-items _ _ c.loop-p.invariant (search rules) (search rules) c.augmented_row.ensures
