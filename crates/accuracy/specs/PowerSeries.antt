-- The power series of exp, and what it means that a number is near to it. Definitions, and examples of them.
use Rattle.std.specs.Prelude.{ℕ, zero, suc, ◌+◌, ◌-◌, ◌*◌, ◌%◌, ◌^◌, ◌≡◌, true, false, not, T}
use Rattle.std.proofs.Math.Path.{refl}
use Rattle.real.specs.Fractions.{Fraction, fraction, fraction_plus, fraction_minus, fraction_times, fraction_over, fraction_less}

-- x^k
unfoldable pub power : Fraction → ℕ → Fraction
power x zero = fraction false 1 1
power x (suc k) = fraction_times (power x k) x

-- k!
unfoldable pub factorial : ℕ → ℕ
factorial zero = 1
factorial (suc k) = suc k * factorial k

-- 1 + x + x²/2! + .. + x^n/n!
unfoldable pub partial_sum : Fraction → ℕ → Fraction
unfolding power factorial
partial_sum x zero = fraction false 1 1
partial_sum x (suc n) = fraction_plus (partial_sum x n) (fraction_over (power x (suc n)) (fraction false (factorial (suc n)) 1))

-- x ≤ y
abbrev pub AtMost : Fraction → Fraction → Type 0
AtMost x y = T (not (fraction_less y x))

-- one part in 2^48
abbrev pub parts : ℕ
parts = 2 ^ 48

abbrev pub slack : Fraction
slack = fraction false 1 parts

-- 02's wish 14: each partial sum of the power series at v that ends in an odd power is at most e·(1 + 2^-48), each that ends in an even power is at least e·(1 - 2^-48)
pub record NearPowerSeries (v e : Fraction) : Type 0 where
  pub odd_power : (n : ℕ) → n % 2 ≡ 1 → AtMost (partial_sum v n) (fraction_times e (fraction_plus (fraction false 1 1) slack))
  pub even_power : (n : ℕ) → n % 2 ≡ 0 → AtMost (fraction_times e (fraction_minus (fraction false 1 1) slack)) (partial_sum v n)

-- ---- examples

module _ where
  -- 1 - 1/2 and 1 - 1/2 + 1/8 - 1/48 = 29/48, and 1 - 1 + 1/2 = 1/2
  sum_examples :
      (partial_sum (fraction true 1 2) 1 ≡ fraction false 1 2)
      × (partial_sum (fraction true 1 2) 3 ≡ fraction false (29 * 16) (48 * 16))
      × (partial_sum (fraction true 1 1) 2 ≡ fraction false 1 2)
  unfolding partial_sum power factorial
  sum_examples = (refl, refl, refl)

  -- at -1/2 the sum to 16 rules out a number 12·2^-52 above the nearest, and the sum to 17 one as much below
  far_examples :
      (AtMost (fraction_times (fraction false (2731571253070597 + 12) (2 ^ 52)) (fraction_minus (fraction false 1 1) slack)) (partial_sum (fraction true 1 2) 16) → ⊥)
      × (AtMost (partial_sum (fraction true 1 2) 17) (fraction_times (fraction false (2731571253070597 - 12) (2 ^ 52)) (fraction_plus (fraction false 1 1) slack)) → ⊥)
  unfolding partial_sum power factorial
  far_examples = (λ h. h, λ h. h)
