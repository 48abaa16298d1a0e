-- `real::rest_finite` meets its contract.
use Rattle.real.proofs.Finite.{Multiplied}
use Rattle.real.proofs.rest_finite.Given as goal

abbrev pub invariant-loop-x : goal.invariant-loop-x
invariant-loop-x l = Multiplied l.s l.x-index l.z
