-- `root::split` meets its contract: a subnormal is shifted by its leading zeros, and a normal number has its leading digit put back.
use Prim.Native.Nat.{◌+◌, ◌*◌, ◌-◌, ◌/◌, ◌%◌, ◌^◌}
use native.Mathlib.Omega.{arith}
use borrow.Author.Tests.{eq-eqb, ne_eqb}
use Rattle.root.specs.Parts.{units_of_bits}
use Rattle.root.proofs.Powers.{subnormal, parted, normal_size, normal_value}
use Rattle.root.proofs.split.Goals as goal

pub returns-then-field-eq0 : goal.returns-then-field-eq0
unfolding units_of_bits
returns-then-field-eq0 c =
    let b = c.args.b in
    let z = subnormal c.args.b c.requires.not_zero (omega arith) in
    rw (eq-eqb (b / 2 ^ 52) 0 c.if-field-eq0.true) (parted b z.long z.value (rw c.from.ensures at c.halved.ensures))

pub returns-else-field-eq0 : goal.returns-else-field-eq0
unfolding units_of_bits
returns-else-field-eq0 c =
    let b = c.args.b in
    let sig = 2 ^ 52 + b % 2 ^ 52 in
    let x = b / 2 ^ 52 in
    rw (ne_eqb x 0 c.if-field-eq0.false)
    (parted (sig * 2 ^ (x - 1)) (normal_size sig x (omega arith) (omega arith) (omega arith)) (normal_value sig x (omega arith)) c.halved-else-field-eq0.ensures)
