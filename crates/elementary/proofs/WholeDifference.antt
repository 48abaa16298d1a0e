-- The difference of two whole numbers, as floats, is exact. Assumes nothing.
use Rattle.std.proofs.Common.{◌≡◌, ℕ, suc, ◌-◌, ◌*◌, ◌^◌, ◌<◌, ◌≤◌, true, false, pos, sym, ap, ◌∙◌, inl, inr, true≢false, mul-le-mul_right, mul_assoc, mul_comm, mul-lt-mul_of_pos_right, mul-pos, mul-one, arith, lit<, le-ltb, lt-ltb, le-leb}
use native.Mathlib.Nat.{mul-sub}
use borrow.Author.Tests.{lt-leb}
use lib.Ieee.{Float, nan, inf, fin, binary64, up, down, minus, sum, add, sub, neg, of_int}
use lib.Ieee.Exact.{HasValue}
use lib.Ieee.Fits.{down_pos}
use lib.Ieee.Scale.{round_same}
use Rattle.real.proofs.Counts.{count_value}
use Rattle.real.proofs.SignedOrder.{here_or_on}

-- a·C/C - b·C/C
scaled : (a b C : ℕ) → (b * C - a * C) * 1 ≡ (b - a) * C
scaled a b C = mul-one (b * C - a * C) ∙ sym (mul_comm (b - a) C ∙ mul-sub C b a ∙ rw (mul_comm C b, mul_comm C a))

sum_whole : (a b C : ℕ) → 0 < C → sum binary64 false (a * C) true (b * C) C ≡ of_int binary64 (minus a b)
unfolding sum of_int
sum_whole a b C p =
    elim (here_or_on a b) [
      | inl h ↦
          let less : suc (b - suc a) ≡ b - a = omega arith in
          rw (lt-ltb (a * C) (b * C) (mul-lt-mul_of_pos_right h p), lt-leb b a h, less)
          (round_same binary64 true (b * C - a * C) C (b - a) 1 p (lit< tt) (scaled a b C))
      | inr h ↦
          rw (le-ltb (a * C) (b * C) (mul-le-mul_right C h), le-leb b a h)
          (round_same binary64 false (a * C - b * C) C (a - b) 1 p (lit< tt) (scaled b a C))
    ]

difference : (x y : Float) (a b : ℕ) → HasValue x false a 1 → HasValue y false b 1 → sub binary64 x y ≡ of_int binary64 (minus a b)
unfolding sub add neg
difference nan y a b h k = absurd h
difference (inf s) y a b h k = absurd h
difference (fin s m e) nan a b h k = absurd k
difference (fin s m e) (inf t) a b h k = absurd k
difference (fin true m e) (fin t n d) a b h k = absurd (true≢false h.0)
difference (fin false m e) (fin true n d) a b h k = absurd (true≢false k.0)
difference (fin false m e) (fin false n d) a b h k =
    let C = down e * down d in
    let l : m * up e * down d ≡ a * C = ap (λ (z : ℕ). z * down d) (sym (mul-one (m * up e)) ∙ h.1) ∙ mul_assoc a (down e) (down d) in
    let r : n * up d * down e ≡ b * C = ap (λ (z : ℕ). z * down e) (sym (mul-one (n * up d)) ∙ k.1) ∙ mul_assoc b (down d) (down e) ∙ ap (λ (z : ℕ). b * z) (mul_comm (down d) (down e)) in
    ap (λ (z : ℕ). sum binary64 false z true (n * up d * down e) C) l
    ∙ ap (λ (z : ℕ). sum binary64 false (a * C) true z C) r
    ∙ sum_whole a b C (mul-pos (down_pos e) (down_pos d))

pub whole_difference : (a b : ℕ) → a ≤ 2 ^ 53 → b ≤ 2 ^ 53 → sub binary64 (of_int binary64 (pos a)) (of_int binary64 (pos b)) ≡ of_int binary64 (minus a b)
whole_difference a b h k = difference (of_int binary64 (pos a)) (of_int binary64 (pos b)) a b (count_value a h) (count_value b k)
