-- 000's refusal of a weight sum, `weight_sum <= 0.0 || !weight_sum.is_finite()`: where every coordinate is finite and every trust lies from 0 to 1, the sum that `weights_at` gives is finite, and above 0 where the location's own trust times 1 is, for every kernel, location and bandwidth. Assumes nothing.
use mathlib.Core.Path.{◌≡◌, refl, sym, ap, ◌∙◌, subst}
use mathlib.Core.Bool.{false}
use mathlib.Core.List.{List}
use Prim.Native.Nat.{ℕ, zero, suc, ◌+◌, ◌*◌, ◌≤◌, ◌<◌}
use native.Mathlib.Nat.{zero-add, sub-zero}
use native.Mathlib.Omega.{arith}
use lib.Dec.{T}
use lib.ListN.{get_or}
use lib.Ieee.{Float, nan, binary64, lt, fits}
use lib.Ieee.Fits.{mul-fits}
use lib.Ieee.Scale.{finite}
use Rattle.real.specs.Fold.{turns, range}
use Rattle.real.specs.Reals.{zero64, one64}
use Rattle.kernel.specs.declared.GwrKernel.{GwrKernel}
use Rattle.kernel.specs.Weight.{weight_of, FromZeroToOne}
use Rattle.kernel.proofs.WeightRange.{total_of, weights_in, weight_zero, weight_fits, total_positive}
use Rattle.kernel.proofs.DistanceRange.{distance_above, distance_own}
use Rattle.setup.specs.declared.Setup.{Setup}
use Rattle.setup.specs.Data.{Trusts, Data}
use Rattle.setup.specs.Data.Trusts.{unasked, each}
use Rattle.weights.specs.Weights.{trusted_weight, weigh_step, weight_from, weights_from, weights_at}
use Rattle.weights.proofs.Products.{product_in}

-- ---- the fold's second part is the sum in order
sum_turns : (v : ℕ → Float) (n : ℕ) (w : List Float) → (turns (weigh_step v) 0 n (w, zero64)).1 ≡ total_of v n
unfolding turns weigh_step total_of
sum_turns v zero w = refl
sum_turns v (suc n) w = rw (sum_turns v n w, zero-add n)

sum_from : (u : Setup) (d : Data) (east north b : Float) → (weights_from u d east north b).1 ≡ total_of (weight_from u d east north b) u.n
unfolding weights_from range
sum_from u d east north b = rw sub-zero (sum_turns (weight_from u d east north b) u.n _)

-- ---- a weight with its trust

-- the trust of observation j, where one is asked for, lies from 0 to 1
abbrev pub TrustAt : Trusts → ℕ → Type 0
TrustAt unasked j = Unit {0}
TrustAt (each t) j = FromZeroToOne (get_or t j nan)

pub trusted_in : (t : Trusts) (j : ℕ) (v : Float) → TrustAt t j → FromZeroToOne v → FromZeroToOne (trusted_weight t j v)
trusted_in unasked j v h k = k
trusted_in (each t) j v h k = product_in v (get_or t j nan) k h

trusted_fits : (t : Trusts) (j : ℕ) (v : Float) → T (fits binary64 v) → T (fits binary64 (trusted_weight t j v))
trusted_fits unasked j v h = h
trusted_fits (each t) j v h = mul-fits binary64 v (get_or t j nan)

-- ---- the weights seen from a location
module _ (u : Setup) (d : Data) (i : ℕ) (b : Float) (places : (j : ℕ) → j < 2 * u.n → T (finite (get_or d.coords j nan))) (rated : (j : ℕ) → j < u.n → TrustAt d.trusts j) (inside : i < u.n) where
  abbrev k : GwrKernel
  k = u.options.kernel

  abbrev weight : ℕ → Float
  weight = weight_from u d (get_or d.coords (2 * i) nan) (get_or d.coords (2 * i + 1) nan) b

  pub each_in : (j : ℕ) → j < u.n → FromZeroToOne (weight j)
  unfolding weight_from
  each_in j h =
      trusted_in d.trusts j _ (rated j h)
      (weights_in k _ b
      (distance_above (get_or d.coords (2 * i) nan) (get_or d.coords (2 * i + 1) nan) (get_or d.coords (2 * j) nan) (get_or d.coords (2 * j + 1) nan)
      (places (2 * i) (omega arith)) (places (2 * i + 1) (omega arith)) (places (2 * j) (omega arith)) (places (2 * j + 1) (omega arith))))

  -- 01: a location's own kernel weight is 1
  own_weight : weight i ≡ trusted_weight d.trusts i one64
  unfolding weight_from
  own_weight =
      ap (trusted_weight d.trusts i)
      (ap (λ (x : Float). weight_of k x b)
      (distance_own (get_or d.coords (2 * i) nan) (get_or d.coords (2 * i + 1) nan) (places (2 * i) (omega arith)) (places (2 * i + 1) (omega arith)))
      ∙ weight_zero k false b)

  own_fits : T (fits binary64 (weight i))
  unfolding weight_from
  own_fits = trusted_fits d.trusts i _ (weight_fits k _ b)

  -- the sum that `weights_at` gives
  pub weight_sum : u.n ≤ 512 → T (finite (weights_at u d i b).1) × (T (lt zero64 (trusted_weight d.trusts i one64)) → T (lt zero64 (weights_at u d i b).1))
  weight_sum few =
      subst (λ (x : Float). T (finite x) × (T (lt zero64 (trusted_weight d.trusts i one64)) → T (lt zero64 x))) (sym (sum_from u d _ _ b))
      (subst (λ (x : Float). T (finite (total_of weight u.n)) × (T (lt zero64 x) → T (lt zero64 (total_of weight u.n)))) own_weight
      (total_positive weight u.n i few each_in inside own_fits))
