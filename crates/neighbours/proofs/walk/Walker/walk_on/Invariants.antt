-- `neighbours::walk::Walker::walk_on` meets its contract: the walk up to j.
use Prim.Native.Nat.{◌+◌, ◌-◌, ◌≤◌}
use lib.ListN.{length}
use Rattle.real.proofs.Fold.{Range}
use Rattle.neighbours.specs.Walk.{pass, squares_from}
use Rattle.neighbours.proofs.walk.Walker.walk_on.Given as goal

abbrev pub invariant-loop-j : goal.invariant-loop-j
invariant-loop-j l =
    Range (pass l.own (squares_from l.coords l.place.east l.place.north)) l.initial.self l.from l.to l.j l.self × (length l.self.sums + (l.to - l.j) ≤ 512)
