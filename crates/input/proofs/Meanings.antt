-- What each test of the lists asks, in plain mathematics: one law for each refusal, named after it.
use mathlib.Core.Path.{◌≡◌, refl, sym, ap, ◌∙◌, subst, subst⁻¹}
use mathlib.Core.Bool.{Bool, true, false, not, ◌&&◌, ◌||◌, true≢false}
use mathlib.Core.List.{List, [], ◌∷◌}
use mathlib.Core.Logic.{◌⊎◌, inl, inr}
use Prim.Native.Nat.{ℕ, ◌+◌, ◌*◌, ◌/◌, ◌%◌, ◌<◌}
use lib.Dec.{T, eqb, ltb}
use lib.ListN.{length}
use lib.Ieee.{Float, nan, inf, fin, lt, le, eq, is_nan, of_bits}
use lib.Ieee.Bits.{is_true}
use lib.Ieee.Fits.{and_i, and_l, and_r}
use lib.Ieee.Scale.{finite}
use Rattle.real.specs.Finite.{all_of, all_finite, in_unit}
use Rattle.real.specs.Reals.{zero64, one64}
use Rattle.real.proofs.SignedOrder.{apart, nlt→le, number_right}
use Rattle.real.proofs.Cases.{by_truth, denied}
use Rattle.real.proofs.Values.{number_zero, number_one}
use Rattle.setup.specs.declared.GwrBandwidth.{GwrBandwidth}
use Rattle.setup.specs.declared.GwrBandwidth.TheVariants.{Fixed, AdaptiveKnn}
use Rattle.setup.specs.declared.GwrOptions.{GwrOptions}
use Rattle.setup.specs.declared.Setup.{Setup}
use Rattle.setup.specs.Data.{Trusts, Data, trust_count}
use Rattle.setup.specs.Data.Trusts.{unasked, each}
use Rattle.setup.specs.Shape.{Sized, Shaped}
use Rattle.checks.specs.Judge.{Means}
use Rattle.checks.proofs.Means.{never_means, not_means, and_means, equal_means, differ_means, below_means}
use Rattle.bounds.specs.Bounds.{greatest_distance, usable_distance}
use Rattle.input.specs.Checks.{trusts_fit, lengths_fit, unusable_given, seeks_distance, nothing_between}
use Rattle.input.specs.Conditions.{SomeNotFinite, OutOfUnit, SomeOutOfUnit, BadTrust, UnusableGiven, NothingBetween}
use Rattle.bounds.proofs.Above.{Above, greatest_above}

-- ---- 1 to 7, of the lengths of coordinates, predictors, responses and trusts

module _ (coords x y trusts p : ℕ) where
  pub no_coordinates_means : Means (eqb coords 0) (coords ≡ 0)
  no_coordinates_means = equal_means coords 0

  pub odd_coordinates_means : Means (eqb (coords % 2) 1) (coords % 2 ≡ 1)
  odd_coordinates_means = equal_means (coords % 2) 1

  pub too_many_observations_means : Means (ltb 512 (coords / 2)) (512 < coords / 2)
  too_many_observations_means = below_means 512 (coords / 2)

  pub too_many_predictors_means : Means (ltb 7 p) (7 < p)
  too_many_predictors_means = below_means 7 p

  pub predictor_length_means : Means (not (eqb x (coords / 2 * p))) (x ≡ coords / 2 * p → ⊥)
  predictor_length_means = differ_means x (coords / 2 * p)

  pub response_length_means : Means (not (eqb y (coords / 2))) (y ≡ coords / 2 → ⊥)
  response_length_means = differ_means y (coords / 2)

  pub trust_count_means : Means (not (eqb trusts (coords / 2))) (trusts ≡ coords / 2 → ⊥)
  trust_count_means = differ_means trusts (coords / 2)

  pub too_few_observations_means : Means (ltb (coords / 2) (p + 1)) (coords / 2 < p + 1)
  too_few_observations_means = below_means (coords / 2) (p + 1)

-- ---- 8 to 10

-- some number of a list does not meet a test, which means P of it
module _ (f : Float → Bool) (P : Float → Type 0) (Some : List Float → Type 0) (none : Some [] → ⊥) (here : (v : Float) (l : List Float) → P v ⊎ Some l → Some (v ∷ l)) (there : (v : Float) (l : List Float) → Some (v ∷ l) → P v ⊎ Some l)
    (each : (v : Float) → Means (not (f v)) (P v)) where
  some_means : (l : List Float) → Means (not (all_of f l)) (Some l)
  unfolding all_of
  some_means [] = (λ e. absurd (true≢false (sym e)), λ h. absurd (none h))
  some_means (v ∷ l) = go (f v) refl (some_means l)
    where
      go : (b : Bool) → f v ≡ b → Means (not (all_of f l)) (Some l) → Means (not (b && all_of f l)) (Some (v ∷ l))
      go true e m = (λ i. here v l (inr (m.0 i)), λ h. elim (there v l h) [ inl k ↦ absurd (true≢false (sym (sym (ap not e) ∙ (each v).1 k))) | inr k ↦ m.1 k ])
      go false e m = (λ i. here v l (inl ((each v).0 (ap not e))), λ h. refl)

finite_means : (v : Float) → Means (not (finite v)) (T (not (finite v)))
finite_means v = (λ e. subst⁻¹ T e tt, λ h. is_true (not (finite v)) h)

pub not_finite_means : (l : List Float) → Means (not (all_finite l)) (SomeNotFinite l)
not_finite_means l = some_means finite (λ (v : Float). T (not (finite v))) SomeNotFinite (λ h. h) (λ v l h. h) (λ v l h. h) finite_means l

module _ (d : Data) where
  pub response_not_finite_means : Means (not (all_finite d.responses)) (SomeNotFinite d.responses)
  response_not_finite_means = not_finite_means d.responses

  pub coordinate_not_finite_means : Means (not (all_finite d.coords)) (SomeNotFinite d.coords)
  coordinate_not_finite_means = not_finite_means d.coords

  pub predictor_not_finite_means : Means (not (all_finite d.predictors)) (SomeNotFinite d.predictors)
  predictor_not_finite_means = not_finite_means d.predictors

-- ---- 26

not_both : (b : Bool) → T b → T (not b) → ⊥
not_both true h k = k
not_both false h k = h

within_not : (v : Float) → OutOfUnit v → T (in_unit v) → ⊥
within_not v (inl h) k = not_both (is_nan v) h (number_right zero64 v (and_l (le zero64 v) (le v one64) k))
within_not v (inr (inl h)) k = apart v zero64 h (and_l (le zero64 v) (le v one64) k)
within_not v (inr (inr h)) k = apart one64 v h (and_r (le zero64 v) (le v one64) k)

-- a number that does not lie from 0 to 1
out_means : (v : Float) → Means (not (in_unit v)) (OutOfUnit v)
out_means v = (λ e. by_truth (is_nan v) (λ k. inl k) (λ n. by_truth (lt v zero64) (λ k. inr (inl k)) (λ l. by_truth (lt one64 v) (λ k. inr (inr k)) (λ g. absurd (not_both (in_unit v) (and_i (le zero64 v) (le v one64) (nlt→le v zero64 n number_zero l) (nlt→le one64 v number_one n g)) (subst⁻¹ T e tt))))), λ h. denied (in_unit v) (within_not v h))

pub trust_out_of_range_means : (t : Trusts) → Means (not (trusts_fit t)) (BadTrust t)
trust_out_of_range_means unasked = never_means
trust_out_of_range_means (each t) = some_means in_unit OutOfUnit SomeOutOfUnit (λ h. h) (λ v l h. h) (λ v l h. h) out_means t

-- ---- 13

pub output_too_short_means : (n p out : ℕ) → Means (ltb out (n * (p + 4))) (out < n * (p + 4))
output_too_short_means n p out = below_means out (n * (p + 4))

-- ---- 21

module _ (u : Setup) (d : Data) where
  pub lengths_fit_means : Means (lengths_fit u d) ((length d.coords ≡ 2 * u.n) × ((length d.predictors ≡ u.n * u.p) × ((length d.responses ≡ u.n) × (trust_count d ≡ u.n))))
  unfolding lengths_fit
  lengths_fit_means = and_means _ _ (equal_means _ _) (and_means _ _ (equal_means _ _) (and_means _ _ (equal_means _ _) (equal_means _ _)))

  -- of sizes in range these are the lengths of a job's data
  pub lengths_shaped : Sized u → Means (lengths_fit u d) (Shaped u d)
  lengths_shaped s = (
    (λ e. let l = lengths_fit_means.0 e in record { sized = s; places = l.0; rows = l.1.0; answers = l.1.1.0; trusted = l.1.1.1 }),
    (λ h. lengths_fit_means.1 (h.places, (h.rows, (h.answers, h.trusted)))),
  )

  pub lengths_differ_means : Means (not (lengths_fit u d)) ((length d.coords ≡ 2 * u.n) × ((length d.predictors ≡ u.n * u.p) × ((length d.responses ≡ u.n) × (trust_count d ≡ u.n))) → ⊥)
  lengths_differ_means = not_means (lengths_fit u d) lengths_fit_means

-- ---- 11

number_of : (b : Float) → T (finite b) → T (not (is_nan b))
unfolding is_nan
number_of nan h = absurd h
number_of (inf s) h = absurd h
number_of (fin s m e) h = tt

-- a finite number that is not above 0 is at most 0
unusable_means : (b : Float) → Means (not (usable_distance b)) (T (not (finite b)) ⊎ T (le b zero64))
unfolding usable_distance
unusable_means b = go (finite b) refl (lt zero64 b) refl
  where
    go : (f : Bool) → finite b ≡ f → (t : Bool) → lt zero64 b ≡ t → Means (not (f && t)) (T (not (finite b)) ⊎ T (le b zero64))
    go false e t k = (λ h. inl (subst⁻¹ (λ (z : Bool). T (not z)) e tt), λ h. refl)
    go true e false k = (λ h. inr (nlt→le zero64 b number_zero (number_of b (subst⁻¹ T e tt)) (subst⁻¹ (λ (z : Bool). T (not z)) k tt)), λ h. refl)
    go true e true k = (
      (λ h. absurd (true≢false (sym h))),
      (λ h. absurd (elim h [ inl n ↦ subst (λ (z : Bool). T (not z)) e n | inr n ↦ apart zero64 b (subst⁻¹ T k tt) n ])),
    )

given_means : (t : Bool) (w : GwrBandwidth) → Means (unusable_given t w) (UnusableGiven t w)
unfolding unusable_given
given_means true w = never_means
given_means false (Fixed b) = unusable_means b
given_means false (AdaptiveKnn k) = never_means

pub unusable_distance_means : (o : GwrOptions) → Means (unusable_given o.optimize_bandwidth o.bandwidth) (UnusableGiven o.optimize_bandwidth o.bandwidth)
unusable_distance_means o = given_means o.optimize_bandwidth o.bandwidth

-- ---- 12

-- of a number that is not below 0, one that cannot be used is zero or infinite
level_zero : (hi : Float) → Above hi → T (le hi zero64) → T (eq hi zero64)
unfolding le
level_zero hi a h = go (lt hi zero64) refl h
  where
    go : (b : Bool) → lt hi zero64 ≡ b → T (b || eq hi zero64) → T (eq hi zero64)
    go true e k = absurd (apart hi zero64 (subst⁻¹ T e tt) a)
    go false e k = k

zero_level : (hi : Float) → T (eq hi zero64) → T (le hi zero64)
unfolding le
zero_level hi h = go (lt hi zero64)
  where
    go : (b : Bool) → T (b || eq hi zero64)
    go true = tt
    go false = h

infinite : (hi : Float) → Above hi → T (not (finite hi)) → hi ≡ inf false
unfolding le lt eq of_bits
infinite nan a h = absurd a
infinite (inf true) a h = absurd a
infinite (inf false) a h = refl
infinite (fin s m e) a h = absurd h

range_means : (hi : Float) → Above hi → Means (not (usable_distance hi)) (T (eq hi zero64) ⊎ (hi ≡ inf false))
range_means hi a =
    let m = unusable_means hi in (
      (λ e. elim (m.0 e) [ inl h ↦ inr (infinite hi a h) | inr h ↦ inl (level_zero hi a h) ]),
      (λ h. m.1 (elim h [ inl k ↦ inr (zero_level hi k) | inr k ↦ inl (subst⁻¹ (λ (z : Float). T (not (finite z))) k tt) ])),
    )

between_means : (t : Bool) (w : GwrBandwidth) (hi : Float) → Above hi → Means (nothing_between t w hi) (NothingBetween t w hi)
unfolding nothing_between seeks_distance
between_means true (Fixed b) hi a = range_means hi a
between_means true (AdaptiveKnn k) hi a = never_means
between_means false w hi a = never_means

module _ (u : Setup) (d : Data) where
  abbrev hi : Float
  hi = greatest_distance d.coords u.n

  pub no_distance_range_means : Means (nothing_between u.options.optimize_bandwidth u.options.bandwidth hi) (NothingBetween u.options.optimize_bandwidth u.options.bandwidth hi)
  no_distance_range_means = between_means u.options.optimize_bandwidth u.options.bandwidth hi (greatest_above d.coords u.n)
