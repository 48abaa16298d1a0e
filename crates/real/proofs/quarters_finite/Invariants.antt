-- `real::quarters_finite` meets its contract.
use lib.Ieee.Scale.{finite}
use Rattle.real.proofs.Finite.{Fours}
use Rattle.real.proofs.quarters_finite.Given as goal

abbrev pub invariant-loop-i : goal.invariant-loop-i
invariant-loop-i l = Fours finite l.s l.h l.i l.good
