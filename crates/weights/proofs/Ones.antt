-- With trusts of 1 the weights are those of 000, which asks for none: x·1 is x.
use mathlib.Core.Path.{◌≡◌, refl, ap, ◌∙◌}
use mathlib.Core.List.{List}
use Prim.Native.Nat.{ℕ, zero, suc, ◌<◌}
use native.Mathlib.Nat.{le_of_suc-le-suc, not-suc-le-zero}
use native.Mathlib.Omega.{arith}
use lib.Dec.{T}
use lib.ListN.{length, get_or, replicate}
use lib.Ieee.{Float, nan, binary64, mul, fits, of_bits}
use Rattle.real.specs.Reals.{one64}
use Rattle.real.proofs.Fold.{related}
use Rattle.real.proofs.Values.{times_one}
use Rattle.kernel.proofs.WeightRange.{weight_fits}
use Rattle.setup.specs.declared.Setup.{Setup}
use Rattle.setup.specs.Data.{data_of, trusting}
use Rattle.weights.specs.Weights.{weight_from, weigh_step, weights_from}

-- each of n ones is 1
pub one_at : (n j : ℕ) → j < n → get_or (replicate n one64) j nan ≡ one64
one_at zero j h = absurd (not-suc-le-zero h)
one_at (suc n) zero h = refl
one_at (suc n) (suc j) h = one_at n j (le_of_suc-le-suc h)

-- a number of binary64, times 1
pub times_whole : (x : Float) → T (fits binary64 x) → mul binary64 x one64 ≡ x
unfolding of_bits
times_whole x h = times_one binary64 x h

module _ (u : Setup) (coords x y : List Float) (many : length y ≡ u.n) (east north b : Float) where
  ones_weight : (j : ℕ) → j < u.n → weight_from u (trusting coords x y) east north b j ≡ weight_from u (data_of coords x y) east north b j
  unfolding weight_from
  ones_weight j h = ap (mul binary64 _) (one_at (length y) j (omega (arith, many, h))) ∙ times_whole _ (weight_fits _ _ _)

  pub ones_weights : weights_from u (trusting coords x y) east north b ≡ weights_from u (data_of coords x y) east north b
  unfolding weights_from weigh_step
  ones_weights =
      related (weigh_step (weight_from u (trusting coords x y) east north b)) (weigh_step (weight_from u (data_of coords x y) east north b)) 0 u.n ◌≡◌
      (λ j s t h e. rw (e, ones_weight j h)) _ _ (omega arith) refl
