-- `input::observations_good` meets its contract.
use Rattle.std.proofs.Common.{length}
use Rattle.input.proofs.Observations.{Walked}
use Rattle.input.proofs.observations_good.Given as goal

abbrev pub invariant-loop-place : goal.invariant-loop-place
invariant-loop-place l = Walked l.coords l.y l.trust (length l.yielded) l.good
