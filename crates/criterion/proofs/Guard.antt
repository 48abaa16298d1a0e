-- Where the two criteria differ: exactly where D < -EPS and 17 is not met. There guarded gives plus infinity, and unguarded, worked as it falls, never does. A D that is NaN is worked as it falls by both. Assumes nothing.
use Rattle.std.proofs.Common.{◌≡◌, ℕ, Bool, true, false, cond, not, T, sym, refl, ap, ◌∙◌, subst, arith}
use lib.Dec.{not_T}
use lib.Ieee.{Float, nan, inf, fin, binary64, add, mul, div, neg, lt, le, fits, is_nan, of_bits}
use lib.Ieee.Bits.{is_true, is_false}
use lib.Ieee.Scale.{finite}
use Rattle.real.specs.Reals.{zero64, two64, eps64, least_normal, inf64, from_count, magnitude}
use Rattle.real.specs.Arithmetic.{rounded}
use Rattle.real.proofs.Cases.{by_test, by_truth}
use Rattle.real.proofs.Closed.{nought}
use Rattle.real.proofs.SignedOrder.{neg_anti, neg_le_nonneg, le_tr, apart, nlt→le, lt→le, number_left, mag_in}
use Rattle.root.specs.Root.{root}
use Rattle.elementary.specs.Ln.{lnv}
use Rattle.elementary.specs.LnSteps.{LnFinite}
use Rattle.elementary.proofs.LnRange.{ln_finite}
use Rattle.setup.specs.declared.GwrCriterion.{GwrCriterion}
use Rattle.setup.specs.declared.GwrCriterion.TheVariants.{Unguarded, Guarded}
use Rattle.setup.specs.declared.Setup.{Setup}
use Rattle.setup.specs.Options.{under}
use Rattle.setup.specs.Shape.{Sized}
use Rattle.refusal.specs.declared.Refusal.{Refusal}
use Rattle.refusal.specs.declared.Refusal.TheVariants.{DeviationNotFinite}
use Rattle.std.specs.Prelude.{Result, Ok, Err}
use Rattle.criterion.specs.Aicc.{pi64, floored, exhausted, criterion_of, corrected_aic}
use Rattle.criterion.specs.Published.{deviation, freedom, aicc_formula}
use Rattle.criterion.proofs.Published.{sigma_normal, aicc_exhausted}
use Rattle.criterion.proofs.Falls.{never_infinite}

-- ---- the tests of D

same_test : (d : Float) → T (not (lt d (neg eps64))) → exhausted Guarded d ≡ exhausted Unguarded d
unfolding exhausted magnitude lt le neg is_nan of_bits
same_test nan h = refl
same_test (inf true) h = absurd h
same_test (inf false) h = refl
same_test (fin false m e) h = refl
same_test (fin true m e) h =
    is_true (le (fin true m e) eps64) (neg_le_nonneg (fin false m e) eps64 tt tt)
    ∙ sym (is_true (le (fin false m e) eps64) (neg_anti (neg eps64) (fin true m e) (nlt→le (fin true m e) (neg eps64) tt tt h)))

below_guarded : (d : Float) → T (lt d (neg eps64)) → T (exhausted Guarded d)
unfolding exhausted
below_guarded d h = le_tr d (neg eps64) eps64 (lt→le d (neg eps64) h) (unfold le neg of_bits in tt)

below_unguarded : (d : Float) → T (lt d (neg eps64)) → T (not (exhausted Unguarded d))
unfolding exhausted magnitude
below_unguarded nan h = absurd (unfold lt in h)
below_unguarded (inf s) h = unfold le of_bits in tt
below_unguarded (fin s m e) h =
    not_T (le (fin false m e) eps64) (λ k. apart (fin s m e) (neg eps64) h (mag_in (fin s m e) eps64 tt (unfold of_bits in tt) (unfold magnitude in k)).0)

no_number : (c : GwrCriterion) → exhausted c nan ≡ false
unfolding exhausted magnitude le
no_number Unguarded = refl
no_number Guarded = refl

below_nought : (d : Float) → T (lt d (neg eps64)) → T (lt d nought)
below_nought d h =
    by_truth (lt d nought) (λ k. k)
    (λ k. absurd (apart d (neg eps64) h (le_tr (neg eps64) nought d (unfold le neg of_bits in tt) (nlt→le d nought (number_left d (neg eps64) (lt→le d (neg eps64) h)) (unfold is_nan in tt) k))))

-- ---- the criteria

plus_nan : (x : Float) → add binary64 x nan ≡ nan
unfolding add
plus_nan nan = refl
plus_nan (inf s) = refl
plus_nan (fin s m e) = refl

over_nan : (x : Float) → div binary64 x nan ≡ nan
unfolding div
over_nan nan = refl
over_nan (inf s) = refl
over_nan (fin s m e) = refl

least_normal_lem : LnFinite least_normal
unfolding of_bits
least_normal_lem = ln_finite least_normal (unfold fits in tt) (unfold le in tt) (unfold lt in tt)

module _ (u : Setup) (rss trace : Float) where
  abbrev n : ℕ
  n = u.n

  abbrev sigma : Float
  sigma = deviation rounded root (from_count n) rss

  abbrev d : Float
  d = freedom rounded (from_count n) trace

  -- D not below -EPS, a NaN among them: no difference
  pub guard_same : T (not (lt d (neg eps64))) → corrected_aic (under Guarded u) rss trace ≡ corrected_aic (under Unguarded u) rss trace
  unfolding corrected_aic criterion_of
  guard_same h = ap (λ (b : Bool). cond (finite sigma) (Ok (cond b inf64 (aicc_formula rounded pi64 lnv (from_count n) (floored sigma) trace))) (Err DeviationNotFinite)) (same_test d h)

  floored_ln : T (finite sigma) → LnFinite (floored sigma)
  unfolding floored
  floored_ln f = by_test LnFinite (le sigma zero64) least_normal sigma (λ _. least_normal_lem) (λ e. (sigma_normal (under Guarded u) rss trace f (subst (λ (b : Bool). T (not b)) (sym e) tt)).1)

  unguarded_value : T (finite sigma) → T (lt d (neg eps64)) → corrected_aic (under Unguarded u) rss trace ≡ Ok (aicc_formula rounded pi64 lnv (from_count n) (floored sigma) trace)
  unfolding corrected_aic criterion_of
  unguarded_value f h = rw (is_true (finite sigma) f, is_false (exhausted Unguarded d) (below_unguarded d h))

  -- D below -EPS, and 17 not met: guarded is plus infinity, and unguarded never
  pub guard_differs : Sized u → T (finite sigma) → T (lt d (neg eps64))
      → (corrected_aic (under Guarded u) rss trace ≡ Ok inf64) × (corrected_aic (under Unguarded u) rss trace ≡ Ok inf64 → ⊥)
  guard_differs s f h = (
    aicc_exhausted (under Guarded u) rss trace f (below_guarded d h),
    λ e. never_infinite n (floored sigma) trace (omega (arith, s.enough)) s.few (floored_ln f) (below_nought d h) (ap value_of (sym (unguarded_value f h) ∙ e)),
  )
    where
      value_of : Result Float Refusal → Float
      value_of (Ok v) = v
      value_of (Err r) = nan

  -- D a NaN, and 17 not met: worked as it falls, to NaN, by either
  pub guard_nan : T (finite sigma) → d ≡ nan → corrected_aic u rss trace ≡ Ok nan
  unfolding corrected_aic criterion_of aicc_formula
  guard_nan f e = rw (is_true (finite sigma) f, e, no_number u.options.criterion, over_nan (mul binary64 (from_count n) (add binary64 (from_count n) trace)), plus_nan (add binary64 (mul binary64 (mul binary64 two64 (from_count n)) (lnv (floored sigma))) (mul binary64 (from_count n) (lnv (mul binary64 two64 pi64)))))
