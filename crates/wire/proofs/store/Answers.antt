-- `wire::store` meets its contract.
use native.Mathlib.Omega.{arith}
use Prim.Native.Nat.{◌+◌, ◌-◌}
use mathlib.Core.Path.{◌≡◌, ◌∙◌}
use lib.Seq.{drop-drop}
use Rattle.wire.proofs.Little.{stored}
use Rattle.wire.proofs.store.Goals as goal

pub returns : goal.returns
returns c =
    let at = c.args.at in
    let behind : at + (at + 8 - at) ≡ at + 8 = omega arith in
    let part = c.copy_from_slice.ensures.after ∙ c.to_le_bytes.ensures ∙ stored c.args.v in
    rw (part, drop-drop (at + 8 - at) at c.args.s.now, behind)
