-- What a search is given: lo and hi are finite numbers of binary64, 0 ≤ lo ≤ hi.
use mathlib.Core.Path.{◌≡◌, refl, subst, subst⁻¹}
use mathlib.Core.Bool.{Bool, true, false, cond, not}
use mathlib.Core.Logic.{◌⊎◌, inl, inr}
use Prim.Native.Nat.{ℕ, ◌≤◌}
use native.Mathlib.Omega.{arith}
use borrow.Author.Tests.{not-false}
use lib.Dec.{T, leb}
use lib.IntN.{pos}
use lib.Ieee.{Float, nan, inf, fin, binary64, mul, div, lt, le, fits, is_nan, of_bits}
use lib.Ieee.Fits.{cond-fits, div-fits, mul-fits, of_int-fits, and_l, and_r}
use lib.Ieee.Scale.{finite}
use Rattle.std.specs.Prelude.{Ok}
use Rattle.real.specs.Reals.{greater, lesser, zero64, from_count}
use Rattle.real.proofs.Counts.{count_natural, count_order}
use Rattle.real.proofs.SignedOrder.{nat_fin, nat_above, in_fin, le_total, lt→le, div_smono, zero_over}
use Rattle.refusal.specs.declared.Refusal.TheVariants.{NoDistanceRange}
use Rattle.setup.specs.declared.GwrBandwidth.{GwrBandwidth}
use Rattle.setup.specs.declared.GwrBandwidth.TheVariants.{Fixed, AdaptiveKnn}
use Rattle.setup.specs.declared.GwrOptions.{GwrOptions}
use Rattle.setup.specs.declared.Setup.{Setup}
use Rattle.setup.specs.Data.{Data}
use Rattle.setup.specs.Shape.{setup_of, Sized}
use Rattle.checks.proofs.Judge.{here, later, none_among, none_append}
use Rattle.plan.specs.declared.Plan.{Plan}
use Rattle.plan.specs.declared.Plan.TheVariants.{Settled, Sought}
use Rattle.bounds.specs.Bounds.{greatest_distance, least_distance, usable_distance, least_count, greatest_count}
use Rattle.input.specs.Checks.{input_tests, seeks_distance, nothing_between, option_tests_at, option_tests}
use Rattle.plan.specs.Plan.{distance_plan, count_plan, search_plan, plan_at, accept_of}
use Rattle.bounds.proofs.Above.{Above, greater_above}
use Rattle.plan.proofs.Planned.{accept_planned}

above_number : (x : Float) → Above x → T (not (is_nan x))
unfolding le is_nan of_bits
above_number nan h = h
above_number (inf s) h = tt
above_number (fin s m e) h = tt

-- ---- the range of a search
pub record Ranged (lo hi : Float) : Type 0 where
  pub low_held : T (fits binary64 lo)
  pub high_held : T (fits binary64 hi)
  pub low_finite : T (finite lo)
  pub high_finite : T (finite hi)
  pub from_zero : Above lo
  pub order : T (le lo hi)

module _ (hi : Float) (n : ℕ) (held : T (fits binary64 hi)) (some : 1 ≤ n) (few : n ≤ 512) where
  abbrev part : Float
  part = div binary64 hi (from_count n)

  abbrev share : Float
  share = mul binary64 hi (of_bits binary64 0x3F50_624D_D2F1_A9FC)

  least_held : T (fits binary64 (least_distance hi n))
  unfolding least_distance lesser greater
  least_held =
      cond-fits binary64 (lt hi (greater part share)) hi (greater part share) held
      (cond-fits binary64 (lt part share) share part (mul-fits binary64 hi (of_bits binary64 0x3F50_624D_D2F1_A9FC)) (div-fits binary64 hi (from_count n)))

  least_above : T (finite hi) → Above hi → Above (least_distance hi n)
  unfolding least_distance lesser of_bits
  least_above f h = go (lt hi (greater part share))
    where
      part_above : Above part
      part_above =
          let r = count_natural n (omega arith) in
          subst (λ (z : Float). T (le z part)) (zero_over binary64 (from_count n) r.0 (r.1 some)) (div_smono binary64 (fin false 0 (pos 0)) hi (from_count n) tt f r.0 (r.1 some) h)

      go : (t : Bool) → Above (cond t hi (greater part share))
      go true = h
      go false = greater_above part share part_above

  distance_ranged : usable_distance hi ≡ true → le hi (least_distance hi n) ≡ false → Ranged (least_distance hi n) hi
  unfolding usable_distance of_bits
  distance_ranged u e =
      let both : T (usable_distance hi) = subst⁻¹ T u tt in
      let f = and_l (finite hi) (lt zero64 hi) both in
      let h = lt→le zero64 hi (and_r (finite hi) (lt zero64 hi) both) in
      let a = least_above f h in
      let k = go (le_total (least_distance hi n) hi (above_number (least_distance hi n) a) (above_number hi h)) in
      record { low_held = least_held; high_held = held; low_finite = in_fin zero64 (least_distance hi n) hi tt f a k; high_finite = f; from_zero = a; order = k }
    where
      go : T (le (least_distance hi n) hi) ⊎ T (le hi (least_distance hi n)) → T (le (least_distance hi n) hi)
      go (inl k) = k
      go (inr k) = absurd (subst T e k)

count_ranged : (m n : ℕ) → m ≤ n → n ≤ 512 → Ranged (from_count m) (from_count n)
unfolding of_bits
count_ranged m n h few =
    let r = (count_natural m (omega arith)).0 in
    record {
      low_held = of_int-fits binary64 (pos m);
      high_held = of_int-fits binary64 (pos n);
      low_finite = nat_fin (from_count m) r;
      high_finite = nat_fin (from_count n) (count_natural n (omega arith)).0;
      from_zero = nat_above (from_count m) r;
      order = count_order m n h;
    }

-- ---- of every plan that seeks
abbrev Within : Plan → Type 0
Within (Settled b) = Unit
Within (Sought lo hi) = Ranged lo hi

told : (b : Bool) (q s : Plan) → (b ≡ true → Within q) → (b ≡ false → Within s) → Within (cond b q s)
told true q s f g = f refl
told false q s f g = g refl

module _ (u : Setup) (s : Sized u) (hi : Float) (held : T (fits binary64 hi)) where
  abbrev Untold : Bool → GwrBandwidth → Type 0
  Untold t w = nothing_between t w hi ≡ false

  search_within : (w : GwrBandwidth) → Untold true w → Within (search_plan w hi u.n u.p)
  unfolding search_plan distance_plan count_plan nothing_between seeks_distance
  search_within (Fixed b) e =
      told (le hi (least_distance hi u.n)) _ _ (λ _. tt) (λ k. distance_ranged hi u.n held (omega (arith, s.enough)) s.few (not-false _ e) k)
  search_within (AdaptiveKnn k) e =
      told (leb (greatest_count u.n u.p) (least_count u.p)) _ _ (λ _. tt) (λ _. count_ranged (least_count u.p) (greatest_count u.n u.p) (omega arith) (omega (arith, s.few, s.narrow)))

  plan_within : Untold u.options.optimize_bandwidth u.options.bandwidth → Within (plan_at u hi)
  unfolding plan_at
  plan_within e =
      told u.options.optimize_bandwidth _ _ (λ t. search_within u.options.bandwidth (subst (λ (z : Bool). Untold z u.options.bandwidth) t e)) (λ _. tt)

-- and so of every accepted job that searches, whose greatest pair distance is a number of binary64
pub sought_ranged : (d : Data) (p : ℕ) (o : GwrOptions) (out : ℕ) {lo hi : Float} → T (fits binary64 (greatest_distance d.coords (setup_of d p o).n)) → accept_of d p o out ≡ Ok (Sought lo hi) → Ranged lo hi
unfolding option_tests_at
sought_ranged d p o out held e =
    let u = setup_of d p o in
    let q = accept_planned d p o out e in
    let t = (none_append (input_tests d p out) (option_tests u d) q.passed).1 in
    subst⁻¹ Within q.is (plan_within u q.accepted.shaped.sized (greatest_distance d.coords u.n) held (none_among NoDistanceRange t (search (here, later))))
