-- If S units are within 12·2^-53 of the 13 steps' exact value at k·L - x, then S·2^-k lies where the law says, for the sum at -x to any n. Assumes nothing.
use mathlib.Core.Path.{◌≡◌, refl, sym, ap, subst}
use mathlib.Core.Logic.{inl, inr}
use Prim.Native.Nat.{ℕ, zero, suc, ◌+◌, ◌-◌, ◌*◌, ◌^◌, ◌≤◌, ◌<◌, zero-le}
use native.Mathlib.Nat.{le_trans, mul-le-mul_right, mul-le-mul_left, le_of_mul-le-mul_left, mul-pos, mul-sub, pow-suc}
use native.Mathlib.Omega.{arith}
use mathlib.Core.Bool.{true, false}
use lib.Dec.{T, leb, leb→le, ltb→lt}
use lib.Pow.{pow_pos}
use Rattle.real.proofs.SignedOrder.{here_or_on}
use Rattle.accuracy.specs.PowerSeries.{parts}
use Rattle.accuracy.proofs.Close.{Within}
use Rattle.accuracy.proofs.Nested.{U, E, XL, CL, NearSteps, Reached}
use Rattle.accuracy.proofs.Terms.{Terms, terms_of, terms_are, unit, unit_pos, sum, sum_mono, part, one_in, tail}
use Rattle.accuracy.proofs.Product.{sum_above, sum_beneath}
use Rattle.accuracy.proofs.Opposite.{odd, even_sum, odd_sum}
use Rattle.accuracy.proofs.Doubling.{H, powers_above, powers_beneath}
use Rattle.accuracy.proofs.Gathered.{near_above, near_below}
use Rattle.accuracy.proofs.Numbers.{Beneath, past_above, before_above, past_beneath, before_beneath, even_end, odd_end}

-- ---- at Y / c of 0.36 at most every sum is 2 at most, and the term of power 14 is under 2^-55

-- 100^i·i!
unfoldable fallen : ℕ → ℕ
fallen zero = 1
fallen (suc i) = 100 * suc i * fallen i

fallen_test : T (leb (2 ^ 55 * 36 ^ 14) (fallen 14))
unfolding fallen
fallen_test = tt

fallen_pos : 0 < fallen 14
unfolding fallen
fallen_pos = ltb→lt 0 (fallen 14) tt

module _ {top Y c o : ℕ} {y : ℕ → ℕ} (C : 0 < c) (is : Terms top Y c o y) (small : Y * 100 ≤ c * 36) where
  falls : (i : ℕ) → i ≤ top → fallen i * y i ≤ 36 ^ i * o
  unfolding fallen
  falls zero h = omega (arith, is.first)
  falls (suc i) h =
      let s : c * (100 * suc i * y (suc i)) ≤ c * (36 * y i) = omega (arith, is.next i h, mul-le-mul_right (y i) small) in
      omega (arith, mul-le-mul_left (fallen i) (le_of_mul-le-mul_left s C), falls i (omega arith), ap (λ (z : ℕ). z * o) (pow-suc 36 i))

  fourteenth : 14 ≤ top → 2 ^ 55 * y 14 ≤ o
  fourteenth h = le_of_mul-le-mul_left (end (2 ^ 55) (fallen 14) (36 ^ 14) (y 14) o (falls 14 h) (leb→le (2 ^ 55 * 36 ^ 14) (fallen 14) fallen_test)) fallen_pos
    where
      end : (f g p w o : ℕ) → g * w ≤ p * o → f * p ≤ g → g * (f * w) ≤ g * o
      end f g p w o h k = omega (arith, mul-le-mul_left f h, mul-le-mul_right o k)

  at_most_two : (n : ℕ) → n ≤ top → sum y n ≤ 2 * o
  unfolding sum
  at_most_two n h = omega (arith, tail C is zero n (omega arith) zero-le h, is.first)

-- U·l is at most a quarter of E·o
quarter : (l o U E : ℕ) → U ≡ 2 ^ 53 * E → 2 ^ 55 * l ≤ o → 4 * (U * l) ≤ E * o
quarter l o U E u h = omega (arith, mul-le-mul_left E h, ap (λ (z : ℕ). z * l) u)

U-is : U ≡ 2 ^ 53 * E
U-is = refl

-- enough terms for the sum to n
abbrev pub top_for : ℕ → ℕ
top_for n = 4 * n + 120000

module _ (v place k S : ℕ) (V0 : 0 < v) (k1021 : k ≤ 1021) (known : Reached S (CL * v) (k * XL * v) place) where
  abbrev c : ℕ
  c = CL * v

  abbrev base : ℕ
  base = k * XL * v

  C : 0 < c
  C = mul-pos (pow_pos 100) V0

  -- the last sum that a lower bound looks at
  abbrev far : ℕ
  far = k * 27 + 14

  module _ (top : ℕ) (high : 120000 ≤ top) where
    abbrev o : ℕ
    o = unit top c

    abbrev at : ℕ → ℕ → ℕ
    at X = terms_of top c X

    O : 0 < o
    O = unit_pos top c C

    -- the terms at X / c, where X is written in another way
    is_at : (X X' : ℕ) → X' ≡ X → Terms top X' c o (at X)
    is_at X X' e = subst (λ (z : ℕ). Terms top z c o (at X)) (sym e) (terms_are top c X)

    pub record Bounds : Type 0 where
      pub above : (n : ℕ) → 4 * n + 26 ≤ top → sum (at place) n * S ≤ 2 ^ k * ((U + 24 * E) * o)
      pub beneath : Beneath (H - 1022) H (2 ^ k) (U * o) (sum (at place) far * S)

    enough : 2 ^ k * (H - 1022) * o ≤ H * sum (at base) (k * 27)
    enough = le_trans (mul-le-mul_right o (mul-le-mul_left (2 ^ k) (fewer H))) (powers_beneath V0 (omega arith) k (omega arith) (le_trans k1021 (leb→le 1021 H tt)))
      where
        fewer : (h : ℕ) → h - 1022 ≤ h - k
        fewer h = omega arith

    -- ---- x past k·L
    module _ (Y : ℕ) (past : base + Y ≡ place) (small : Y * 100 ≤ c * 36) (near : NearSteps S c 0 Y) where
      abbrev z : ℕ
      z = part (at Y) 13 true - part (at Y) 13 false

      value : Within (12 * (E * o)) (S * o) (U * z)
      value = less S o (part (at Y) 13 true) (part (at Y) 13 false) U E (near_below C (is_at Y Y refl) (omega arith) S near)
        where
          less : (S o a b U E : ℕ) → Within (12 * (E * o)) (S * o + b * U) (a * U) → Within (12 * (E * o)) (S * o) (U * (a - b))
          less S o a b U E h = omega (arith, mul-sub U a b)

      two : (n : ℕ) → n ≤ top → sum (at Y) n ≤ 2 * o
      two n h = at_most_two C (is_at Y Y refl) small n h

      when_past : Bounds
      when_past =
          record {
            above = λ n h.
                past_above (sum (at place) n) (sum (at Y) n) z S o U E (2 ^ k) O
                (le_trans (sum_above C (is_at base base refl) (is_at Y Y refl) (is_at place (base + Y) past) n (omega arith))
                (mul-le-mul_right (sum (at Y) n) (powers_above V0 (omega arith) k n (omega arith))))
                value.over (odd_sum C (is_at Y Y refl) 13 n (omega arith) (unfold odd in refl)) (two n (omega arith));
            beneath =
                past_beneath (sum (at place) far) (sum (at base) (k * 27)) (sum (at Y) 14) z (at Y 14) S o U E (2 ^ k) (H - 1022) H O U-is
                (sum_beneath C (is_at base base refl) (is_at Y Y refl) (is_at place (base + Y) past) (k * 27) 14 (omega arith)) enough
                (le_trans (even_sum C (is_at Y Y refl) 14 (omega arith) (unfold odd in refl)) (mul-le-mul_right (sum (at Y) 14) next)) value.under
                (quarter (at Y 14) o U E U-is (fourteenth C (is_at Y Y refl) small (omega arith))) (two 14 (omega arith));
          }
        where
          next : part (at Y) 14 false - part (at Y) 14 true ≤ z + at Y 14
          next = (unfold part in omega arith)

    -- ---- x before k·L
    module _ (Y : ℕ) (before : place + Y ≡ base) (small : Y * 100 ≤ c * 36) (near : NearSteps S c Y 0) where
      exact : Within (12 * (E * o)) (S * o) (U * sum (at Y) 13)
      exact = plain S o (sum (at Y) 13) U E (near_above C (is_at Y Y refl) (omega arith) S near)
        where
          plain : (S o a U E : ℕ) → Within (12 * (E * o)) (S * o + 0 * U) (a * U) → Within (12 * (E * o)) (S * o) (U * a)
          plain S o a U E h = omega arith

      when_before : Bounds
      when_before =
          record {
            above = λ n h.
                before_above (sum (at place) n) (sum (at Y) 13) S o U E (2 ^ k) O
                (le_trans (sum_beneath C (is_at place place refl) (is_at Y Y refl) (is_at base (place + Y) before) n 13 (omega arith))
                (mul-le-mul_left o (powers_above V0 (omega arith) k (n + 13) (omega arith))))
                exact.over (one_in C (is_at Y Y refl) 13);
            beneath =
                before_beneath (sum (at place) far) (sum (at base) far) (sum (at Y) far) S o U E (2 ^ k) (H - 1022) H O U-is
                (sum_above C (is_at place place refl) (is_at Y Y refl) (is_at base (place + Y) before) far (omega arith))
                (le_trans enough (mul-le-mul_left H (sum_mono (at base) (k * 27) far (omega arith))))
                (rest (sum (at Y) far) (at Y far) (sum (at Y) 14) (at Y 14) (sum (at Y) 13) U (S * o) (E * o)
                (tail C (is_at Y Y refl) 14 far (omega arith) (omega arith) (omega arith)) (unfold sum in refl) exact.under
                (quarter (at Y 14) o U E U-is (fourteenth C (is_at Y Y refl) small (omega arith)))) known.half;
          }
        where
          rest : (q w q' l b U so eo : ℕ) → q + w ≤ q' + l → q' ≡ l + b → U * b ≤ so + 12 * eo → 4 * (U * l) ≤ eo → U * q ≤ so + 13 * eo
          rest q w q' l b U so eo t s h g = let a : q ≤ b + 2 * l = omega arith in omega (arith, mul-le-mul_left U a)

    bounds : Bounds
    bounds =
        elim (here_or_on place base) [
          | inl h ↦ let z : place - base ≡ 0 = omega arith in when_before (base - place) (omega arith) (omega (arith, known.small)) (rw z at known.near)
          | inr h ↦ let z : base - place ≡ 0 = omega arith in when_past (place - base) (omega arith) (omega (arith, known.small)) (rw z at known.near)
        ]

  abbrev terms : ℕ → ℕ → ℕ
  terms n = terms_of (top_for n) c place

  pub even_bound : (n : ℕ) → odd n ≡ false → (parts - 1) * (unit (top_for n) c * S) ≤ parts * ((part (terms n) n false - part (terms n) n true) * (2 ^ k * U))
  even_bound n e =
      let top = top_for n in
      even_end (part (terms n) n false - part (terms n) n true) (sum (terms n) n) S (unit top c) (2 ^ k) U E (unit_pos top c C) U-is
      (even_sum C (terms_are top c place) n (omega arith) e) ((bounds top (omega arith)).above n (omega arith))

  pub odd_bound : (n : ℕ) → odd n ≡ true → parts * ((part (terms n) n true - part (terms n) n false) * (2 ^ k * U)) ≤ (parts + 1) * (unit (top_for n) c * S)
  odd_bound n e =
      let top = top_for n in
      odd_end (part (terms n) n true - part (terms n) n false) (sum (terms n) far) S (unit top c) (2 ^ k) U (unit_pos top c C)
      (odd_sum C (terms_are top c place) n far (omega arith) e) (bounds top (omega arith)).beneath
