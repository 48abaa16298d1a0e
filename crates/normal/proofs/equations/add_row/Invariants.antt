-- `normal::equations::add_row` meets its contract: the loop's row is the fold of `cell_step` from the diagonal on.
use Prim.Native.Nat.{◌+◌}
use lib.ListN.{length}
use Rattle.real.proofs.Fold.{Range}
use Rattle.normal.specs.Design.{design_of}
use Rattle.normal.specs.Equations.{cell_step}
use Rattle.normal.proofs.equations.add_row.Given as goal

abbrev pub invariant-loop-q : goal.invariant-loop-q
invariant-loop-q l = Range (cell_step l.wx (design_of l.own)) l.initial.row (l.from + 1) (length l.own + 1) (l.q + 1) l.row
