-- `gauss::find_pivot` meets its contract.
use Prim.Native.Nat.{◌+◌}
use Rattle.real.proofs.Fold.{Range}
use Rattle.gauss.specs.Gauss.{pivot_step}
use Rattle.gauss.proofs.find_pivot.Given as goal

abbrev pub invariant-loop-k : goal.invariant-loop-k
invariant-loop-k l = Range (pivot_step l.a l.i) l.initial.p (l.i + 1) l.n l.k l.p
