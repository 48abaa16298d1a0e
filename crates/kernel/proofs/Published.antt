-- The weight of a usable bandwidth is the published formula with each operation rounded once, in 000's order; an unusable one leaves the formula. The formulas on fractions are the published ones. Assumes nothing.
use mathlib.Core.Path.{◌≡◌, refl}
use mathlib.Core.Bool.{true, false, not, cond}
use Prim.Native.Nat.{ℕ, ◌-◌, ◌*◌, ◌≤◌, ◌<◌}
use native.Mathlib.Nat.{mul_assoc, mul-one, one-mul, mul-le-mul, le_of_lt}
use borrow.Author.Tests.{lt-ltb, le-ltb}
use lib.Dec.{T}
use lib.Ieee.{Float, eq}
use lib.Ieee.Bits.{is_true, is_false}
use Rattle.real.specs.Reals.{zero64, one64}
use Rattle.real.specs.Fractions.{Fraction, fraction}
use Rattle.kernel.specs.declared.GwrKernel.{GwrKernel}
use Rattle.kernel.specs.declared.GwrKernel.TheVariants.{Gaussian, Bisquare, Exponential}
use Rattle.real.specs.Arithmetic.{rounded}
use Rattle.elementary.specs.Exp.{expv}
use Rattle.kernel.specs.Weight.{unusable, weight_of}
use Rattle.kernel.specs.Published.{gaussian_formula, bisquare_formula, exponential_formula, kernel_formula, exact_weight, power_of_e, plain_weight}

-- ---- binary64

-- a bandwidth that is finite and above 0: the formula, each operation rounded once
pub weight_rounded : (k : GwrKernel) (d b : Float) → T (not (unusable b)) → weight_of k d b ≡ kernel_formula rounded expv (λ x. x) k d b
unfolding weight_of
weight_rounded k d b h = rw (is_false (unusable b) h)

-- any other: 1 for a distance of 0, else 0, whichever kernel
pub weight_apart : (k : GwrKernel) (d b : Float) → T (unusable b) → weight_of k d b ≡ cond (eq d zero64) one64 zero64
unfolding weight_of
weight_apart k d b h = rw (is_true (unusable b) h)

-- ---- fractions: distance a/c at bandwidth p/q, of which d/b is (a·q)/(p·c)
module _ (a c p q : ℕ) where
  abbrev distance : Fraction
  distance = fraction false a c

  abbrev bandwidth : Fraction
  bandwidth = fraction false p q

  -- exp(-(d/b)²/2)
  pub gaussian_exact : exact_weight Gaussian distance bandwidth ≡ power_of_e (fraction true (a * q * (a * q)) (2 * (p * c * (p * c))))
  unfolding gaussian_formula
  gaussian_exact = rw (one-mul (a * q), mul_assoc 2 (p * c) (p * c))

  -- (1 - (d/b)²)² for d < b
  pub bisquare_exact : a * q < p * c → (let u = p * c * (p * c) - a * q * (a * q) in exact_weight Bisquare distance bandwidth ≡ plain_weight (fraction false (u * u) (p * c * (p * c) * (p * c * (p * c)))))
  unfolding bisquare_formula
  bisquare_exact h =
      rw (lt-ltb (a * q) (p * c) h, one-mul (p * c * (p * c)), mul-one (a * q * (a * q)), le-ltb (p * c * (p * c)) (a * q * (a * q)) (mul-le-mul (le_of_lt h) (le_of_lt h)))

  -- 0 for d ≥ b
  pub bisquare_outside : p * c ≤ a * q → exact_weight Bisquare distance bandwidth ≡ plain_weight (fraction false 0 1)
  unfolding bisquare_formula
  bisquare_outside h = rw (le-ltb (a * q) (p * c) h)

  -- exp(-d/b)
  pub exponential_exact : exact_weight Exponential distance bandwidth ≡ power_of_e (fraction true (a * q) (p * c))
  unfolding exponential_formula
  exponential_exact = refl
