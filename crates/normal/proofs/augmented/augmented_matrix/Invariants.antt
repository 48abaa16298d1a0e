-- `normal::augmented::augmented_matrix` meets its contract: the loop's matrix is the fold of `augment_step` up to p.
use mathlib.Core.List.{◌++◌}
use lib.ListN.{drop, replicate}
use Rattle.real.specs.Reals.{zero64}
use Rattle.real.proofs.Fold.{Range}
use Rattle.normal.specs.Augmented.{augment_step}
use Rattle.normal.proofs.augmented.augmented_matrix.Given as goal

abbrev pub invariant-loop-p : goal.invariant-loop-p
invariant-loop-p l = Range (augment_step l.a l.m) (replicate 8 (replicate 16 zero64)) 0 l.m l.p (l.row-items ++ drop l.m (replicate 8 (replicate 16 zero64)))
