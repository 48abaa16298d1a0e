-- `wire::decode` meets its contract.
use Rattle.wire.proofs.Decoding.{Decoding}
use Rattle.wire.proofs.decode.Given as goal

abbrev pub invariant-loop-k : goal.invariant-loop-k
invariant-loop-k l = Decoding l.s l.initial.into l.k l.into
