-- Byte lengths that 1 to 6 let pass, and those that pass.
use mathlib.Core.Path.{◌≡◌}
use Prim.Native.Nat.{ℕ, ◌*◌, ◌/◌, ◌%◌, ◌≤◌}
use native.Mathlib.Omega.{arith}
use borrow.Author.Tests.{ltb-false, eqb-true, eqb-false, not-false, eq-eqb, ne_eqb, le-ltb}
use Rattle.checks.specs.Judge.{judge, NoneOf}
use Rattle.checks.proofs.Judge.{none_head}
use Rattle.request.specs.Lengths.{part_tests, byte_tests, ByteLengths}

-- byte lengths that refusals 1 to 6 let pass
pub passed : (coords x y p : ℕ) → NoneOf (byte_tests coords x y p) → ByteLengths coords x y p
unfolding byte_tests part_tests
passed coords x y p h =
    let t1 = none_head _ _ _ h in
    let t2 = none_head _ _ _ t1.1 in
    let t3 = none_head _ _ _ t2.1 in
    let t4 = none_head _ _ _ t3.1 in
    let t5 = none_head _ _ _ t4.1 in
    let t6 = none_head _ _ _ t5.1 in
    let some : coords ≡ 0 → ⊥ = eqb-false _ _ t1.0 in
    let even : coords % 16 ≤ 0 = ltb-false _ _ t2.0 in
    record {
      some = omega arith;
      few = ltb-false _ _ t3.0;
      narrow = ltb-false _ _ t4.0;
      places = omega arith;
      rows = eqb-true _ _ (not-false _ t5.0);
      responses = eqb-true _ _ (not-false _ t6.0);
    }

-- and those that pass
pub lengths_pass : (coords x y p : ℕ) → ByteLengths coords x y p → NoneOf (byte_tests coords x y p)
unfolding judge byte_tests part_tests
lengths_pass coords x y p h =
    let z : coords ≡ 0 → ⊥ = λ q. omega (arith, h.some, q) in
    rw (ne_eqb coords 0 z, le-ltb 0 (coords % 16) (omega (arith, h.places)), le-ltb 512 (coords / 16) h.few, le-ltb 7 p h.narrow, eq-eqb x (8 * (coords / 16 * p)) h.rows, eq-eqb y (8 * (coords / 16)) h.responses)
