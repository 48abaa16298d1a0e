-- `gauss::less_row` meets its contract: the loop's cells, with the others behind them, are the fold of `less_step` so far.
use mathlib.Core.List.{◌++◌}
use lib.ListN.{drop}
use Rattle.real.proofs.Fold.{Range}
use Rattle.gauss.specs.Gauss.{less_step}
use Rattle.gauss.proofs.less_row.Given as goal

abbrev pub invariant-loop-j : goal.invariant-loop-j
invariant-loop-j l = Range (less_step l.v l.by) l.fn.row 0 l.m l.j (l.x-items ++ drop l.m l.fn.row)
