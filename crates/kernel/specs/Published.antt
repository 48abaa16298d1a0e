-- The kernels of Fotheringham, Brunsdon and Charlton 2002 as formulas over any arithmetic. Definitions, and examples at the end.
use Rattle.std.specs.Prelude.{◌≡◌, true, false, cond}
use Rattle.std.proofs.Math.Path.{refl}
use Rattle.real.specs.Fractions.{Fraction, fraction}
use Rattle.real.specs.Arithmetic.{Arithmetic, exact}
use Rattle.kernel.specs.declared.GwrKernel.{GwrKernel}
use Rattle.kernel.specs.declared.GwrKernel.TheVariants.{Gaussian, Bisquare, Exponential}

-- ---- the formulas over an arithmetic on R, with an exp into the weights W; each operation written once, in 000's order

-- exp(-(d/b)²/2): exp((-1/2·r)·r) with r = d/b
unfoldable pub gaussian_formula : {R W : Type 0} → Arithmetic R → (R → W) → R → R → W
gaussian_formula A exp d b = let r = A.over d b in exp (A.times (A.times (A.opposite A.half) r) r)

-- (1 - (d/b)²)² for d < b, else 0
unfoldable pub bisquare_formula : {R : Type 0} → Arithmetic R → R → R → R
bisquare_formula A d b = cond (A.less d b) (let r = A.over d b in let t = A.minus A.one (A.times r r) in A.times t t) A.nought

-- exp(-d/b)
unfoldable pub exponential_formula : {R W : Type 0} → Arithmetic R → (R → W) → R → R → W
exponential_formula A exp d b = exp (A.over (A.opposite d) b)

-- of each kernel; `number` takes a number as a weight
abbrev pub kernel_formula : {R W : Type 0} → Arithmetic R → (R → W) → (R → W) → GwrKernel → R → R → W
kernel_formula A exp number Gaussian d b = gaussian_formula A exp d b
kernel_formula A exp number Bisquare d b = number (bisquare_formula A d b)
kernel_formula A exp number Exponential d b = exponential_formula A exp d b

-- ---- fractions: nothing is rounded

-- a weight is a fraction, or e to the power of one
pub data ExactWeight : Type 0 where
  power_of_e : Fraction → ExactWeight
  plain_weight : Fraction → ExactWeight

abbrev pub exact_weight : GwrKernel → Fraction → Fraction → ExactWeight
exact_weight k d b = kernel_formula exact power_of_e plain_weight k d b

-- ---- examples: distance 1 at bandwidth 2, exact
module _ where
  exact_examples :
      let d = fraction false 1 1 in
      let b = fraction false 2 1 in
      (exact_weight Gaussian d b ≡ power_of_e (fraction true 1 8))
      × (exact_weight Bisquare d b ≡ plain_weight (fraction false 9 16))
      × (exact_weight Exponential d b ≡ power_of_e (fraction true 1 2))
  unfolding gaussian_formula bisquare_formula exponential_formula
  exact_examples = (refl, refl, refl)
