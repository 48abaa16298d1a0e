-- `weights::near::settle_all` meets its contract: the places before j hold distances.
use Rattle.weights.specs.Near.{near_distance, Filled}
use Rattle.weights.proofs.near.settle_all.Given as goal

abbrev pub invariant-loop-j : goal.invariant-loop-j
invariant-loop-j l = Filled (near_distance l.coords l.place.east l.place.north) l.j l.y
