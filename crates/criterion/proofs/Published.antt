-- `corrected_aic` is the published AICc with each operation rounded once, in 000's order, off three spots, and what it is at each of them. The formula on exact fractions. Assumes nothing.
use Rattle.std.proofs.Common.{◌≡◌, ℕ, Bool, true, false, not, ◌&&◌, ◌||◌, T, ◌⊎◌, sym, refl, ap, ◌∙◌, subst, inl, inr, mul_assoc, mul_left_comm}
use lib.Ieee.{Float, nan, inf, fin, binary64, unlike, lt, le, eq, fits, is_nan, of_bits, mul, div}
use lib.Ieee.Fits.{div-fits, mul-fits}
use lib.Ieee.Bits.{is_true, is_false}
use lib.Ieee.Scale.{finite}
use Rattle.real.specs.Reals.{zero64, two64, least_normal, inf64, from_count}
use Rattle.real.specs.Fractions.{Fraction, fraction, fraction_times, fraction_over}
use Rattle.real.specs.Arithmetic.{Arithmetic, rounded, exact}
use Rattle.real.proofs.SignedOrder.{le_tr, nlt→le}
use Rattle.root.specs.Root.{root}
use Rattle.elementary.specs.Ln.{lnv}
use Rattle.root.specs.Nearest.{NearestRoot}
use Rattle.root.proofs.Nearest.{root_nearest, root_of_negative}
use Rattle.elementary.specs.LnSteps.{LnFinite}
use Rattle.elementary.proofs.LnRange.{ln_finite}
use Rattle.setup.specs.declared.GwrCriterion.{GwrCriterion}
use Rattle.setup.specs.declared.Setup.{Setup}
use Rattle.refusal.specs.declared.Refusal.TheVariants.{DeviationNotFinite}
use Rattle.std.specs.Prelude.{Ok, Err}
use Rattle.criterion.specs.Aicc.{pi64, floored, exhausted, criterion_of, corrected_aic}
use Rattle.criterion.specs.Published.{deviation, freedom, aicc_published, aicc_formula}

-- ---- a finite root: of a zero, which is its own root, or of a positive number
below_infinity : (x : Float) → T (finite x) → lt x (inf false) ≡ true
unfolding lt
below_infinity nan p = absurd p
below_infinity (inf s) p = absurd p
below_infinity (fin s m e) p = refl

number : (x : Float) → T (finite x) → T (not (is_nan x))
unfolding is_nan
number nan p = absurd p
number (inf s) p = absurd p
number (fin s m e) p = tt

zero_of_le : (x : Float) → T (le x zero64) → lt x zero64 ≡ false → T (eq x zero64)
unfolding le
zero_of_le x h e = subst (λ (b : Bool). T (b || eq x zero64)) e h

le_of_zero : (x : Float) → T (eq x zero64) → T (le x zero64)
unfolding le
le_of_zero x h = go (lt x zero64)
  where
    go : (b : Bool) → T (b || eq x zero64)
    go true = tt
    go false = h

zero_number : T (not (is_nan zero64)) × T (finite zero64)
unfolding of_bits is_nan
zero_number = (tt, tt)

abbrev Cases : Float → Float → Type 0
Cases x r = (T (eq x zero64) × (r ≡ x)) ⊎ NearestRoot x r

root_own : (x : Float) (b c : Bool) → lt x zero64 ≡ false → lt zero64 x ≡ b → lt x inf64 ≡ c → (b && c) ≡ false → root x ≡ x
unfolding root
root_own x b c p q r e = rw (p, q, r, e)

root_cases : (x : Float) → T (fits binary64 x) → T (finite (root x)) → Cases x (root x)
root_cases x F f = go (lt x zero64) (lt zero64 x) (lt x inf64) refl refl refl
  where
    go : (a b c : Bool) → lt x zero64 ≡ a → lt zero64 x ≡ b → lt x inf64 ≡ c → Cases x (root x)
    go true b c p q r = absurd (subst (λ (z : Float). T (finite z)) (root_of_negative x (subst T (sym p) tt)) f)
    go false true true p q r = inr (root_nearest x F (subst T (sym q) tt) (subst T (sym r) tt))
    go false true false p q r =
        let own = root_own x true false p q r refl in
        let fx = subst (λ (z : Float). T (finite z)) own f in
        absurd (subst T (sym (below_infinity x fx) ∙ r) tt)
    go false false c p q r =
        let own = root_own x false c p q r refl in
        let fx = subst (λ (z : Float). T (finite z)) own f in
        inl (zero_of_le x (nlt→le zero64 x zero_number.0 (number x fx) (subst (λ (b : Bool). T (not b)) (sym q) tt)) p, own)

no_normal : T (le least_normal zero64) → ⊥
unfolding le of_bits
no_normal t = t

-- ---- the order of the last term

-- where a product and a quotient may change places, as in the real numbers, 000's order is the published one
pub published_order : {R : Type 0} (A : Arithmetic R) → ((x y z : R) → A.times x (A.over y z) ≡ A.over (A.times x y) z) → (pi : R) (ln : R → R) (n sigma trace : R) → aicc_published A pi ln n sigma trace ≡ aicc_formula A pi ln n sigma trace
unfolding aicc_published aicc_formula
published_order A law pi ln n sigma trace = ap (A.plus (A.plus (A.times (A.times A.two n) (ln sigma)) (A.times n (ln (A.times A.two pi))))) (law n (A.plus n trace) (freedom A n trace))

-- so it is with exact fractions, whatever stands for π and ln
unlike_assoc : (s t u : Bool) → unlike s (unlike t u) ≡ unlike (unlike s t) u
unlike_assoc true true true = refl
unlike_assoc true true false = refl
unlike_assoc true false true = refl
unlike_assoc true false false = refl
unlike_assoc false true true = refl
unlike_assoc false true false = refl
unlike_assoc false false true = refl
unlike_assoc false false false = refl

change_places : (x y z : Fraction) → fraction_times x (fraction_over y z) ≡ fraction_over (fraction_times x y) z
change_places (fraction s a c) (fraction t b d) (fraction u e f) = rw (unlike_assoc s t u, ← mul_assoc a b f, mul_left_comm c e d)

pub published_exact : (pi : Fraction) (ln : Fraction → Fraction) (n sigma trace : Fraction) → aicc_published exact pi ln n sigma trace ≡ aicc_formula exact pi ln n sigma trace
published_exact pi ln n sigma trace = published_order exact change_places pi ln n sigma trace

-- ---- the numbers that ln is asked of

-- ln 2π, worked out from finite steps
in_normal : T (le least_normal (mul binary64 two64 pi64)) × T (lt (mul binary64 two64 pi64) (inf false))
unfolding mul le lt of_bits
in_normal = (tt, tt)

pub ln_two_pi : LnFinite (mul binary64 two64 pi64)
unfolding of_bits
ln_two_pi = ln_finite (mul binary64 two64 pi64) (mul-fits binary64 two64 pi64) in_normal.0 in_normal.1

module _ (u : Setup) (rss trace : Float) where
  abbrev n : ℕ
  n = u.n

  abbrev criterion : GwrCriterion
  criterion = u.options.criterion

  -- σ̂, rounded
  abbrev sigma : Float
  sigma = deviation rounded root (from_count n) rss

  mean_cases : T (finite sigma) → Cases (div binary64 rss (from_count n)) sigma
  unfolding deviation
  mean_cases f = root_cases (div binary64 rss (from_count n)) (div-fits binary64 rss (from_count n)) f

  -- σ̂ at most 0 is that of a mean square of 0
  pub sigma_zero : T (finite sigma) → T (le sigma zero64) → T (eq (div binary64 rss (from_count n)) zero64)
  sigma_zero f h =
      elim (mean_cases f) [
        | inl z ↦ z.0
        | inr r ↦ absurd (no_normal (le_tr _ sigma zero64 r.is_normal h))
      ]

  -- any other is a positive normal number, so ln has its steps for it, and each of them is finite
  pub sigma_normal : T (finite sigma) → T (not (le sigma zero64)) → T (le least_normal sigma) × LnFinite sigma
  unfolding of_bits
  sigma_normal f p =
      elim (mean_cases f) [
        | inl z ↦ absurd (subst (λ (b : Bool). T (not b)) (is_true (le sigma zero64) (subst (λ (x : Float). T (le x zero64)) (sym z.1) (le_of_zero (div binary64 rss (from_count n)) z.0))) p)
        | inr r ↦ (r.is_normal, ln_finite sigma r.held r.is_normal (subst T (sym (below_infinity sigma f)) tt))
      ]

  -- σ̂ finite and above 0, D not exhausted: the published formula, each operation rounded once
  pub aicc_rounded : T (finite sigma) → T (not (le sigma zero64)) → T (not (exhausted criterion (freedom rounded (from_count n) trace))) → corrected_aic u rss trace ≡ Ok (aicc_formula rounded pi64 lnv (from_count n) sigma trace)
  unfolding corrected_aic criterion_of floored
  aicc_rounded f p d = rw (is_true (finite sigma) f, is_false (exhausted criterion (freedom rounded (from_count n) trace)) d, is_false (le sigma zero64) p)

  -- σ̂ not finite: refusal 17
  pub aicc_refused : T (not (finite sigma)) → corrected_aic u rss trace ≡ Err DeviationNotFinite
  unfolding corrected_aic
  aicc_refused f = rw (is_false (finite sigma) f)

  -- D exhausted, |D| ≤ EPS or guarded D ≤ EPS: plus infinity
  pub aicc_exhausted : T (finite sigma) → T (exhausted criterion (freedom rounded (from_count n) trace)) → corrected_aic u rss trace ≡ Ok (inf false)
  unfolding corrected_aic criterion_of
  aicc_exhausted f d = rw (is_true (finite sigma) f, is_true (exhausted criterion (freedom rounded (from_count n) trace)) d)

  -- σ̂ of 0: the formula with 2^-1022 for σ̂
  pub aicc_floored : T (finite sigma) → T (le sigma zero64) → T (not (exhausted criterion (freedom rounded (from_count n) trace))) → corrected_aic u rss trace ≡ Ok (aicc_formula rounded pi64 lnv (from_count n) least_normal trace)
  unfolding corrected_aic criterion_of floored
  aicc_floored f p d = rw (is_true (finite sigma) f, is_false (exhausted criterion (freedom rounded (from_count n) trace)) d, is_true (le sigma zero64) p)
