-- `wire::decode` meets its contract.
use borrow.Author.Rules.{rules}
use mathlib.Core.Path.{◌∙◌, ap}
use Rattle.wire.specs.Wire.{real_of}
use Rattle.wire.proofs.Decoding.{start, next}
use Rattle.wire.proofs.decode.Goals as goal

pub loop-k-init : goal.loop-k-init
loop-k-init c = start

pub loop-k-preserved : goal.loop-k-preserved
loop-k-preserved c =
    next c.loop-k.invariant (search rules) (c.real_of.ensures ∙ ap real_of c.load.ensures)
