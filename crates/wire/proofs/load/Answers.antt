-- `wire::load` meets its contract.
use mathlib.Core.Path.{ap, ◌∙◌}
use native.Mathlib.Omega.{arith}
use Rattle.std.specs.Int.{w64, from_le_bytes}
use Rattle.wire.proofs.Little.{loaded}
use Rattle.wire.proofs.load.Goals as goal

pub returns : goal.returns
returns c =
    let chunk = rw c.unwrap.ensures at c.first_chunk.ensures.cases in
    c.from_le_bytes.ensures ∙ ap (from_le_bytes w64) chunk.same ∙ loaded _ _ _ c.requires (omega arith)
