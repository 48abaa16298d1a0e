-- `wire::encode` meets its contract.
use borrow.Author.Rules.{rules}
use Rattle.wire.proofs.Encoding.{start, next}
use Rattle.wire.proofs.encode.Goals as goal

pub loop-k-init : goal.loop-k-init
loop-k-init c = start

pub loop-k-preserved : goal.loop-k-preserved
loop-k-preserved c =
    next c.loop-k.invariant (search rules) c.bits_of.ensures c.store.ensures
