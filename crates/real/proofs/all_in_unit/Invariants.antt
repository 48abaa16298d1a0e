-- `real::all_in_unit` meets its contract.
use Rattle.real.specs.Finite.{in_unit}
use Rattle.real.proofs.Finite.{Passed}
use Rattle.real.proofs.all_in_unit.Given as goal

abbrev pub invariant-loop-x : goal.invariant-loop-x
invariant-loop-x l = Passed in_unit l.s l.x-index l.good
