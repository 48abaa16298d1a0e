-- The weight sums of an accepted job: finite, and above 0 where the location's own trust times 1 is, so that 27 is not met there.
use Rattle.refusal.specs.declared.Refusal.{Refusal}
use Rattle.local.specs.declared.Solved.{Solved}
use Rattle.std.specs.Prelude.{Err, Result}
use mathlib.Core.Path.{◌≡◌, ap, ◌∙◌, subst, subst⁻¹}
use mathlib.Core.Bool.{true}
use mathlib.Core.Logic.{inl, inr}
use mathlib.Core.List.{List}
use Prim.Native.Nat.{ℕ, ◌*◌, ◌<◌}
use native.Mathlib.Omega.{arith}
use lib.Dec.{T}
use lib.ListN.{length, get_or}
use lib.Ieee.{Float, nan, binary64, mul, lt, le, fits, of_bits}
use lib.Ieee.Fits.{and_l, and_r}
use lib.Ieee.Scale.{finite}
use Rattle.claims.specs.Words.{zero64, one64, in_unit, WeightSumNotPositive, refusal_number, NoneOf, GwrBandwidth, GwrOptions, Setup, Trusts, unasked, each, Data, trusting, count_in, setup_of, local_bandwidth_distance, trusted_weight, weights_at, trusts_fit, input_tests, fit_tests, solve_location}
use Rattle.claims.proofs.Laws.{at_each, none_append, Accepted, input_accepted, TrustAt, weight_sum, one_at, times_whole, AtFit, OutcomeBy, weighed_at}

-- every trust that is asked for lies from 0 to 1
rate : (t : Trusts) (y n j : ℕ) → trusts_fit t ≡ true → count_in t y ≡ n → j < n → TrustAt t j
rate unasked y n j e c h = tt
rate (each l) y n j e c h =
    let k = at_each in_unit l j (subst⁻¹ T e tt) (omega (arith, c, h)) in
    record { low = and_l (le zero64 (get_or l j nan)) (le (get_or l j nan) one64) k; high = and_r (le zero64 (get_or l j nan)) (le (get_or l j nan) one64) k }

module _ (d : Data) (p : ℕ) (o : GwrOptions) (out : ℕ) (passed : NoneOf (fit_tests d p o out)) where
  abbrev u : Setup
  u = setup_of d p o

  pub accepted : Accepted d p o out
  accepted = input_accepted d p out o (none_append (input_tests d p out) _ passed).0

  -- every coordinate is finite
  pub places : (c : ℕ) → c < 2 * u.n → T (finite (get_or d.coords c nan))
  places c h = at_each finite d.coords c (subst⁻¹ T accepted.places_finite tt) (omega (arith, accepted.shaped.places))

  rated : (j : ℕ) → j < u.n → TrustAt d.trusts j
  rated j h = rate d.trusts (length d.responses) u.n j accepted.trusts_fit_lem accepted.shaped.trusted h

  module _ (i : ℕ) (inside : i < u.n) where
    pub sum_at : (b : Float) → T (finite (weights_at u d i b).1) × (T (lt zero64 (trusted_weight d.trusts i one64)) → T (lt zero64 (weights_at u d i b).1))
    sum_at b = weight_sum u d i b places rated inside accepted.shaped.sized.few

    pub weighs_at : (b : GwrBandwidth) → T (lt zero64 (trusted_weight d.trusts i one64)) → OutcomeBy AtFit (solve_location u d b i)
    weighs_at b own = weighed_at u d b i ((sum_at (local_bandwidth_distance d.coords u.n i b)).1 own)

-- 27 is none of 14, 15 and 16
fit_weighs : AtFit WeightSumNotPositive → ⊥
fit_weighs (inl e) = let n = ap refusal_number e in omega (arith, n)
fit_weighs (inr (inl e)) = let n = ap refusal_number e in omega (arith, n)
fit_weighs (inr (inr e)) = let n = ap refusal_number e in omega (arith, n)

pub never_weightless : (o : Result Solved Refusal) → OutcomeBy AtFit o → o ≡ Err WeightSumNotPositive → ⊥
never_weightless o h e = fit_weighs (subst (OutcomeBy AtFit) e h)

-- ---- a trust of 1, or none asked for, weighs

pub one_weighs : T (lt zero64 one64)
unfolding lt of_bits
one_weighs = tt

one_fits : T (fits binary64 one64)
unfolding fits of_bits
one_fits = tt

pub trusting_weighs : (coords x y : List Float) (i : ℕ) → i < length y → T (lt zero64 (trusted_weight (trusting coords x y).trusts i one64))
trusting_weighs coords x y i h = subst⁻¹ (λ (v : Float). T (lt zero64 v)) (ap (mul binary64 one64) (one_at (length y) i h) ∙ times_whole one64 one_fits) one_weighs
