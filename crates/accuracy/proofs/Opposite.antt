-- The sum to n at -x times the sum to n at x is at least 1 where n is even, and at most 1 where n is odd, then also times any sum at x. Assumes nothing.
-- With q the sum of the terms of n's parity up to n and r that of the others, the sum at x is q + r, and the sum at -x is q - r, or r - q where n is odd.
-- q² - r² is 1, or -1, and the integral from 0 to x of its derivative, which is twice r times the term of power n.
use mathlib.Core.Path.{◌≡◌, refl, sym, ap, ◌∙◌, subst}
use mathlib.Core.Logic.{inl, inr}
use Prim.Native.Nat.{ℕ, zero, suc, ◌+◌, ◌-◌, ◌*◌, ◌≤◌, ◌<◌, zero-le}
use native.Mathlib.Nat.{le_trans, le_of_eq, le_of_lt, zero-mul, zero-add, add-zero, mul-le-mul, mul-le-mul_left, mul-pos, mul-sub, zero-lt-suc, eq_of_mul-eq-mul_left}
use native.Mathlib.Omega.{arith}
use mathlib.Core.Bool.{Bool, true, false, not}
use lib.Dec.{T}
use Rattle.real.proofs.SignedOrder.{P, N, here_or_on}
use Rattle.accuracy.proofs.Terms.{Terms, sum, sum_mono, part, sum_parts, no_greater, no_less}

-- ---- n + i over n
unfoldable ways : ℕ → ℕ → ℕ
ways zero i = 1
ways (suc n) zero = 1
ways (suc n) (suc i) = ways n (suc i) + ways (suc n) i

ways_none : (n : ℕ) → ways n zero ≡ 1
unfolding ways
ways_none zero = refl
ways_none (suc n) = refl

ways_swap : (n i : ℕ) → ways n i ≡ ways i n
unfolding ways
ways_swap zero i = sym (ways_none i)
ways_swap (suc n) zero = refl
ways_swap (suc n) (suc i) = omega (arith, ways_swap n (suc i), ways_swap (suc n) i)

unfoldable pub odd : ℕ → Bool
odd zero = false
odd (suc n) = not (odd n)

twice : (b : Bool) → not (not b) ≡ b
twice true = refl
twice false = refl

module _ {top X c o : ℕ} {t : ℕ → ℕ} (C : 0 < c) (is : Terms top X c o t) where
  -- x^n/n!·x^i/i! = (n + i over n)·x^(n + i)/(n + i)!
  term_times : (n i : ℕ) → n + i ≤ top → o * (ways n i * t (n + i)) ≡ t n * t i
  unfolding ways
  term_times zero i h = omega (arith, ap (λ (z : ℕ). z * t i) is.first, ap (λ (z : ℕ). o * t z) (zero-add i))
  term_times (suc n) zero h = omega (arith, ap (λ (z : ℕ). t (suc n) * z) is.first, ap (λ (z : ℕ). o * t z) (add-zero (suc n)))
  term_times (suc n) (suc i) h =
      let s = n + suc i in
      let e1 : suc n + suc i ≡ suc s = omega arith in
      let e2 : suc n + i ≡ s = omega arith in
      let a = term_times n (suc i) (omega arith) in
      let b : o * (ways (suc n) i * t s) ≡ t (suc n) * t i = ap (λ (z : ℕ). o * (ways (suc n) i * t z)) (sym e2) ∙ term_times (suc n) i (omega arith) in
      let w = ways n (suc i) in
      let v = ways (suc n) i in
      let g : c * suc s * (o * ((w + v) * t (suc s))) ≡ c * suc s * (t (suc n) * t (suc i)) =
      up (w + v) (t s) (t (suc s)) (c * suc s) (is.next s (omega arith)) ∙ sums w v (t s) (t n * t (suc i)) (t (suc n) * t i) a b
      ∙ down (t n) (t (suc n)) (t i) (t (suc i)) (suc n) (suc i) (suc s) (omega arith) (is.next n (omega arith)) (is.next i (omega arith)) in
      ap (λ (z : ℕ). o * ((w + v) * t z)) e1
      ∙ eq_of_mul-eq-mul_left (c * suc s) (mul-pos C (zero-lt-suc s)) (o * ((w + v) * t (suc s))) (t (suc n) * t (suc i)) g
    where
      up : (w s s' g : ℕ) → g * s' ≡ X * s → g * (o * (w * s')) ≡ X * (o * (w * s))
      up w s s' g e = omega (arith, ap (λ (z : ℕ). o * w * z) e)

      sums : (w v s p q : ℕ) → o * (w * s) ≡ p → o * (v * s) ≡ q → X * (o * ((w + v) * s)) ≡ X * p + X * q
      sums w v s p q e f = omega (arith, ap (λ (z : ℕ). X * z) e, ap (λ (z : ℕ). X * z) f)

      down : (a a' b b' n i k : ℕ) → n + i ≡ k → c * n * a' ≡ X * a → c * i * b' ≡ X * b → X * (a * b') + X * (a' * b) ≡ c * k * (a' * b')
      down a a' b b' n i k l g h = omega (arith, ap (λ (z : ℕ). b' * z) g, ap (λ (z : ℕ). a' * z) h, ap (λ (z : ℕ). c * (a' * b') * z) l)

  -- the integral of x^n/n!·x^i/i! from 0 to x
  area : ℕ → ℕ → ℕ
  area n i = ways n i * t (suc (n + i))

  area_swap : (n i : ℕ) → area n i ≡ area i n
  unfolding area
  area_swap n i = let e : n + i ≡ i + n = omega arith in ap (λ (z : ℕ). z * t (suc (n + i))) (ways_swap n i) ∙ ap (λ (z : ℕ). ways i n * t (suc z)) e

  -- integration by parts, of two terms and of sums of every other term
  by_parts : (n i : ℕ) → suc n + suc i ≤ top → t (suc n) * t (suc i) ≡ o * area n (suc i) + o * area (suc n) i
  unfolding area ways
  by_parts n i h =
      let k = suc n + suc i in
      let e1 : suc (n + suc i) ≡ k = omega arith in
      let e2 : suc (suc n + i) ≡ k = omega arith in
      omega (arith, term_times (suc n) (suc i) h, ap (λ (z : ℕ). o * (ways n (suc i) * t z)) e1, ap (λ (z : ℕ). o * (ways (suc n) i * t z)) e2)

  by_parts_none : (n : ℕ) → t (suc n) * t zero ≡ o * area n zero
  unfolding area
  by_parts_none n = omega (arith, ap (λ (z : ℕ). t (suc n) * z) is.first, ap (λ (z : ℕ). o * (z * t (suc (n + 0)))) (ways_none n), ap (λ (z : ℕ). o * t (suc z)) (add-zero n))

  by_parts_same : (n i : ℕ) → suc n + i ≤ top → t (suc n) * part t i false ≡ o * part (area n) i false + o * part (area (suc n)) i true
  unfolding part
  by_parts_same n zero h = omega (arith, by_parts_none n)
  by_parts_same n (suc zero) h = omega (arith, by_parts n zero h)
  by_parts_same n (suc (suc i)) h = omega (arith, by_parts n (suc i) h, by_parts_same n i (omega arith))

  by_parts_other : (n i : ℕ) → suc n + i ≤ top → t (suc n) * part t i true + o * area (suc n) i ≡ o * part (area n) i true + o * part (area (suc n)) i false
  unfolding part
  by_parts_other n zero h = omega arith
  by_parts_other n (suc i) h = omega (arith, by_parts_same n i (omega arith))

  -- q² and r² differ by 1 and twice a sum of areas
  abbrev excess : ℕ → ℕ
  excess n = 2 * (o * part (area n) n true)

  squares : (n : ℕ) → n + n ≤ top → part t n false * part t n false + N (odd n) (o * o) ≡ part t n true * part t n true + P (odd n) (o * o) + excess n
  unfolding odd part
  squares zero h = omega (arith, ap (λ (z : ℕ). z * z) is.first)
  squares (suc n) h =
      finish (odd n) (part t n false) (part t n true) (t (suc n)) (area n (suc n)) (area (suc n) n) (part (area n) n true) (part (area (suc n)) n false)
      (area_swap n (suc n)) (by_parts n n (omega arith)) (by_parts_other n n (omega arith)) (squares n (omega arith))
    where
      finish : (s : Bool) (q r a m' m w v : ℕ) → m' ≡ m → a * a ≡ o * m' + o * m → a * r + o * m ≡ o * w + o * v → q * q + N s (o * o) ≡ r * r + P s (o * o) + 2 * (o * w)
          → (a + r) * (a + r) + N (not s) (o * o) ≡ q * q + P (not s) (o * o) + 2 * (o * v)
      finish true q r a m' m w v e f g h = omega (arith, ap (λ (z : ℕ). o * z) e)
      finish false q r a m' m w v e f g h = omega (arith, ap (λ (z : ℕ). o * z) e)

  -- ---- (q - r)·(q + r) = q² - r²
  difference : (q r : ℕ) → (q - r) * (q + r) ≡ q * q - r * r
  difference q r = omega (arith, mul-sub (q + r) q r)

  pub even_sum : (n : ℕ) → n + n ≤ top → odd n ≡ false → o * o ≤ (part t n false - part t n true) * sum t n
  even_sum n h e = rw (sum_parts t n) (let s = rw e at (squares n h) in omega (arith, difference (part t n false) (part t n true)))

  odd_itself : (n : ℕ) → n + n ≤ top → odd n ≡ true → (part t n true - part t n false) * sum t n ≤ o * o
  odd_itself n h e = rw (sum_parts t n) (let s = rw e at (squares n h) in omega (arith, difference (part t n true) (part t n false)))

  -- ---- an odd sum at -x is at most 0 up to n = x, and from there on the next one is no less
  nothing : (n : ℕ) → n ≤ top → odd n ≡ true → c * n ≤ X → part t n true ≤ part t n false
  unfolding odd part
  nothing zero h e g = absurd (subst T (sym e) tt)
  nothing (suc zero) h e g = omega (arith, no_less C is zero h g)
  nothing (suc (suc n)) h e g = omega (arith, no_less C is (suc n) h g, nothing n (omega arith) (sym (twice (odd n)) ∙ e) (le_trans (mul-le-mul_left c (omega arith)) g))

  abbrev gap : ℕ → ℕ
  gap n = part t n true - part t n false

  rises : (n k : ℕ) → n + (k + k) ≤ top → X ≤ c * suc (suc n) → gap n ≤ gap (n + (k + k))
  rises n zero h g = le_of_eq (ap gap (sym (add-zero n)))
  rises n (suc k) h g =
      let m = n + (k + k) in
      let e : suc (suc m) ≡ n + (suc k + suc k) = omega arith in
      subst (λ (i : ℕ). gap n ≤ gap i) e (le_trans (rises n k (omega arith) g) (two_on m (no_greater C is (suc m) (omega arith) (le_trans g (mul-le-mul_left c (omega arith))))))
    where
      two_on : (m : ℕ) → t (suc (suc m)) ≤ t (suc m) → gap m ≤ gap (suc (suc m))
      two_on m h = (unfold part in omega arith)

  odd_on : (n m : ℕ) → odd (n + (m + m)) ≡ odd n
  odd_on n zero = ap odd (add-zero n)
  odd_on n (suc m) = let e : n + (suc m + suc m) ≡ suc (suc (n + (m + m))) = omega arith in ap odd e ∙ step (n + (m + m)) ∙ odd_on n m
    where
      step : (k : ℕ) → odd (suc (suc k)) ≡ odd k
      step k = (unfold odd in twice (odd k))

  pub odd_sum : (n m : ℕ) → 2 * (n + (m + m)) ≤ top → odd n ≡ true → gap n * sum t m ≤ o * o
  odd_sum n m h e =
      elim (here_or_on X (c * n)) [
        | inl g ↦
            let k = n + (m + m) in
            le_trans (mul-le-mul (rises n m (omega arith) (le_trans (le_of_lt g) (mul-le-mul_left c (omega arith)))) (sum_mono t m k (omega arith))) (odd_itself k (omega arith) (odd_on n m ∙ e))
        | inr g ↦ let a = nothing n (omega arith) e g in let z : gap n ≡ 0 = omega arith in rw z (rw (zero-mul (sum t m)) zero-le)
      ]
