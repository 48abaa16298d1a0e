-- `gauss::div_row` meets its contract: the loop's cells, with the others behind them, are the fold of `div_step` so far.
use mathlib.Core.List.{◌++◌}
use lib.ListN.{drop}
use Rattle.real.proofs.Fold.{Range}
use Rattle.gauss.specs.Gauss.{div_step}
use Rattle.gauss.proofs.div_row.Given as goal

abbrev pub invariant-loop-x : goal.invariant-loop-x
invariant-loop-x l = Range (div_step l.v) l.fn.row 0 l.m l.x-index (l.x-items ++ drop l.m l.fn.row)
