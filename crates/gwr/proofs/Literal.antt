-- The search of an accepted job is `golden_section_min` as 000 has it, and so is its fit.
use mathlib.Core.Path.{◌≡◌, refl, ap, subst⁻¹, ◌∙◌}
use mathlib.Core.List.{List}
use mathlib.Core.Bool.{Bool, true, false, not}
use Prim.Native.Nat.{ℕ, ◌^◌, ◌≤◌, ◌<◌}
use native.Mathlib.Omega.{arith}
use lib.Dec.{T, leb, le→leb, nleb→lt}
use lib.ListN.{length}
use lib.IntN.{pos}
use lib.Ieee.{Float, binary64, le, of_int, to_unsigned, in_float}
use lib.Ieee.Back.{unsigned_back}
use Rattle.std.specs.Prelude.{Ok}
use Rattle.real.proofs.Cases.{by_test}
use Rattle.real.proofs.Counts.{count_natural}
use Rattle.real.proofs.SignedOrder.{to_unsigned_mono}
use Rattle.setup.specs.declared.GwrBandwidth.{GwrBandwidth}
use Rattle.setup.specs.declared.GwrBandwidth.TheVariants.{Fixed, AdaptiveKnn}
use Rattle.setup.specs.declared.GwrOptions.{GwrOptions}
use Rattle.setup.specs.declared.Setup.{Setup}
use Rattle.setup.specs.Data.{Data}
use Rattle.setup.specs.Shape.{setup_of, Sized}
use Rattle.plan.specs.declared.Plan.{Plan}
use Rattle.plan.specs.declared.Plan.TheVariants.{Settled, Sought}
use Rattle.bounds.specs.Bounds.{greatest_distance, least_distance, least_count, greatest_count, bandwidth_at}
use Rattle.plan.specs.Plan.{Acceptance, distance_plan, count_plan, search_plan, plan_at, accept_of}
use Rattle.plan.proofs.Planned.{accept_planned}
use Rattle.search.specs.Trial.{trial_of}
use Rattle.search.specs.Search.{golden_of, optimize_bandwidth}
use Rattle.search.specs.Literal.{golden_section_min}
use Rattle.search.proofs.Literal.{golden_literal}
use Rattle.gwr.specs.Fit.{final_of, sought_of, fitted, answered, gwr_fit}

-- A search that is accepted has lo below hi, so that 000's `if a >= b` does not hold

whole_back : (n : ℕ) → n ≤ 1024 → to_unsigned 64 (of_int binary64 (pos n)) ≡ n
whole_back n h = (unsigned_back binary64 64 n (unfold in_float in le→leb n (2 ^ 53) (omega arith)) (omega arith)).1

whole_apart : (m n : ℕ) → m < n → n ≤ 1024 → le (of_int binary64 (pos n)) (of_int binary64 (pos m)) ≡ false
whole_apart m n l h = go (le (of_int binary64 (pos n)) (of_int binary64 (pos m))) refl
  where
    go : (b : Bool) → le (of_int binary64 (pos n)) (of_int binary64 (pos m)) ≡ b → b ≡ false
    go false e = refl
    go true e =
        let k = to_unsigned_mono 64 (of_int binary64 (pos n)) (of_int binary64 (pos m)) (count_natural n (omega arith)).0 (count_natural m (omega arith)).0 (subst⁻¹ T e tt) in
        absurd (omega (arith, k, whole_back n h, whole_back m (omega arith)))

abbrev Apart : Plan → Type 0
Apart (Settled b) = Unit {0}
Apart (Sought lo hi) = le hi lo ≡ false

plan_apart : (u : Setup) (hi : Float) → Sized u → Apart (plan_at u hi)
unfolding plan_at search_plan distance_plan count_plan
plan_apart u hi z = by_test Apart u.options.optimize_bandwidth _ _ (λ _. sought u.options.bandwidth) (λ _. tt)
  where
    sought : (w : GwrBandwidth) → Apart (search_plan w hi u.n u.p)
    sought (Fixed b) = by_test Apart (le hi (least_distance hi u.n)) _ _ (λ _. tt) (λ e. e)
    sought (AdaptiveKnn k) =
        let few = z.few in
        let narrow = z.narrow in
        by_test Apart (leb (greatest_count u.n u.p) (least_count u.p)) _ _ (λ _. tt)
        (λ e. whole_apart (least_count u.p) (greatest_count u.n u.p) (nleb→lt (greatest_count u.n u.p) (least_count u.p) (subst⁻¹ (λ (t : Bool). T (not t)) e tt)) (omega (arith, few, narrow)))

module _ (d : Data) (p : ℕ) (o : GwrOptions) where
  abbrev u : Setup
  u = setup_of d p o

  -- the search of an accepted job is 000's `golden_section_min`: the point that it finds, and the solves
  pub sought_literal : (out : ℕ) (lo hi : Float) → accept_of d p o out ≡ Ok (Sought lo hi)
      → ◌≡◌ {A = Float × ℕ} ((golden_of u d lo hi).bracket.best, (golden_of u d lo hi).solves) (golden_section_min (trial_of u d) lo hi)
  sought_literal out lo hi e =
      let a = accept_planned d p o out e in
      golden_literal u d lo hi (subst⁻¹ Apart a.is (plan_apart u (greatest_distance d.coords u.n) a.accepted.shaped.sized))

  -- so the fit of a searched job is 000's: a final fit at the point that `golden_section_min` finds
  pub fit_literal : (out : List Float) (lo hi : Float) → accept_of d p o (length out) ≡ Ok (Sought lo hi) →
      let m = golden_section_min (trial_of u d) lo hi in
      gwr_fit d p o out ≡ fitted (final_of u d (bandwidth_at u m.0) m.1 out)
  unfolding gwr_fit sought_of optimize_bandwidth
  fit_literal out lo hi e =
      ap (λ (a : Acceptance). answered a u d out) e
      ∙ ap (λ (m : Float × ℕ). fitted (final_of u d (bandwidth_at u m.0) m.1 out)) (sought_literal (length out) lo hi e)
