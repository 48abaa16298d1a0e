-- `wire::encode` meets its contract.
use Rattle.wire.proofs.Encoding.{Encoding}
use Rattle.wire.proofs.encode.Given as goal

abbrev pub invariant-loop-k : goal.invariant-loop-k
invariant-loop-k l = Encoding l.from l.initial.s l.k l.s
