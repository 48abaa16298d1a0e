-- `normal::augmented::augmented_row` meets its contract: the loop's row is the fold of `mirror_step` up to q; then the identity's cell.
use mathlib.Core.List.{◌++◌}
use lib.ListN.{drop, replicate}
use Rattle.real.specs.Reals.{zero64}
use Rattle.real.proofs.Fold.{Range}
use Rattle.normal.specs.Augmented.{mirror_step}
use Rattle.normal.proofs.augmented.augmented_row.Given as goal

abbrev pub invariant-loop-q : goal.invariant-loop-q
invariant-loop-q l = Range (mirror_step l.a l.p) (replicate 16 zero64) 0 l.m l.q (l.cell-items ++ drop l.m (replicate 16 zero64))
