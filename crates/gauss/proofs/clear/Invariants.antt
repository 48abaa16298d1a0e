-- `gauss::clear` meets its contract: the loop's rows, with the others behind them.
use mathlib.Core.List.{◌++◌}
use lib.ListN.{drop}
use Rattle.gauss.proofs.Rows.{Clearing}
use Rattle.gauss.proofs.clear.Given as goal

abbrev pub invariant-loop-k : goal.invariant-loop-k
invariant-loop-k l = Clearing l.fn.a l.i l.n l.m l.by l.k (l.row-items ++ drop l.n l.fn.a)
