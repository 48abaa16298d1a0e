-- `weights::near::kernel_all` meets its contract: the places before an index hold weights, those from it on the distances still.
use Rattle.weights.specs.Near.{kernel_over, Filled}
use Rattle.weights.proofs.Fills.{Unfilled}
use Rattle.weights.proofs.near.kernel_all.Given as goal

abbrev pub invariant-loop-d : goal.invariant-loop-d
invariant-loop-d l = Filled (kernel_over l.kernel l.b l.initial.y) l.d-index l.y × Unfilled l.initial.y l.d-index l.y
