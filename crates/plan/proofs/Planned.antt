-- What an accepted input is planned for, and that a plan's bandwidth can be used and is of the kind asked for.
use mathlib.Core.Path.{◌≡◌, refl, sym, subst⁻¹, ◌∙◌}
use mathlib.Core.Bool.{Bool, true, false, cond}
use mathlib.Core.Logic.{inl, inr}
use Prim.Native.Nat.{ℕ}
use native.Mathlib.Omega.{arith}
use lib.Dec.{leb}
use lib.Ieee.{Float, le}
use Rattle.std.specs.Prelude.{Ok, Err}
use Rattle.real.proofs.Cases.{either}
use Rattle.refusal.specs.declared.Refusal.{Refusal}
use Rattle.setup.specs.declared.GwrBandwidth.{GwrBandwidth}
use Rattle.setup.specs.declared.GwrBandwidth.TheVariants.{Fixed, AdaptiveKnn}
use Rattle.setup.specs.declared.GwrOptions.{GwrOptions}
use Rattle.setup.specs.declared.Setup.{Setup}
use Rattle.setup.specs.Bandwidth.{Usable}
use Rattle.setup.specs.Data.{Data}
use Rattle.setup.specs.Shape.{setup_of, Sized}
use Rattle.counts.proofs.Bounds.{resolve_some, resolve_few}
use Rattle.checks.specs.Judge.{judge, ruled, NoneOf, Decides}
use Rattle.checks.proofs.Judge.{ruled_append, none_append, decided, decides}
use Rattle.checks.proofs.Tests.{refused_so, given_so}
use Rattle.input.proofs.Accepted.{Accepted, input_accepted}
use Rattle.plan.specs.declared.Plan.{Plan}
use Rattle.plan.specs.declared.Plan.TheVariants.{Settled, Sought}
use Rattle.bounds.specs.Bounds.{greatest_distance, least_distance, least_count, greatest_count}
use Rattle.input.specs.Checks.{input_tests, seeks_distance, nothing_between, option_tests_at, option_tests, fit_tests}
use Rattle.plan.specs.Plan.{Acceptance, resolve_initial_bandwidth, distance_plan, count_plan, search_plan, plan_at, plan_of, plan_options_at, plan_options, accept_of}

-- ---- options

-- where no distance is sought, the greatest pair distance is not looked at
module _ (u : Setup) (h k : Float) (e : seeks_distance u.options.optimize_bandwidth u.options.bandwidth ≡ false) where
  tests_blind : option_tests_at u.options h ≡ option_tests_at u.options k
  unfolding option_tests_at nothing_between
  tests_blind = rw e

  plan_blind : plan_at u h ≡ plan_at u k
  unfolding plan_at search_plan seeks_distance
  plan_blind = go u.options.optimize_bandwidth u.options.bandwidth e
    where
      go : (t : Bool) (w : GwrBandwidth) → seeks_distance t w ≡ false → cond t (search_plan w h u.n u.p) (Settled (resolve_initial_bandwidth w u.n u.p)) ≡ cond t (search_plan w k u.n u.p) (Settled (resolve_initial_bandwidth w u.n u.p))
      go true (Fixed b) e = cc
      go true (AdaptiveKnn c) e = refl
      go false w e = refl

  pub options_blind : plan_options_at u h ≡ plan_options_at u k
  unfolding plan_options_at
  options_blind = rw (tests_blind, plan_blind)

-- ---- bandwidths that can be used

-- one of the same kind
abbrev pub Like : GwrBandwidth → GwrBandwidth → Type 0
Like (Fixed a) (Fixed b) = Unit {0}
Like (Fixed a) (AdaptiveKnn k) = ⊥
Like (AdaptiveKnn j) (Fixed b) = ⊥
Like (AdaptiveKnn j) (AdaptiveKnn k) = Unit {0}

-- the bandwidth that a plan settles can be used, and is of the kind that is asked for
abbrev pub Serves : GwrBandwidth → Plan → Type 0
Serves kind (Settled b) = Usable b × Like kind b
Serves kind (Sought lo hi) = Unit

module _ (u : Setup) (s : Sized u) where
  given_serves : (w : GwrBandwidth) → Serves w (Settled (resolve_initial_bandwidth w u.n u.p))
  unfolding resolve_initial_bandwidth
  given_serves (Fixed b) = (tt, tt)
  given_serves (AdaptiveKnn k) = (record { some = resolve_some k u.n u.p; few = resolve_few k u.n u.p s.few }, tt)

  search_serves : (w : GwrBandwidth) (hi : Float) → Serves w (search_plan w hi u.n u.p)
  unfolding search_plan distance_plan count_plan
  search_serves (Fixed b) hi = either (Serves (Fixed b)) (le hi (least_distance hi u.n)) _ _ (tt, tt) tt
  search_serves (AdaptiveKnn k) hi =
      either (Serves (AdaptiveKnn k)) (leb (greatest_count u.n u.p) (least_count u.p)) _ _ (record { some = omega arith; few = omega (arith, s.narrow) }, tt) tt

  pub plan_serves : (hi : Float) → Serves u.options.bandwidth (plan_at u hi)
  unfolding plan_at
  plan_serves hi = either (Serves u.options.bandwidth) u.options.optimize_bandwidth _ _ (search_serves u.options.bandwidth hi) (given_serves u.options.bandwidth)

-- ---- an input that is accepted

-- q is the plan of an input that no test refuses
pub record PlannedAs (d : Data) (p : ℕ) (o : GwrOptions) (out : ℕ) (q : Plan) : Type 0 where
  pub passed : NoneOf (fit_tests d p o out)
  pub accepted : Accepted d p o out
  pub is : q ≡ plan_of (setup_of d p o) d
  pub serves : Serves o.bandwidth q

planned_one : {q s : Plan} → ◌≡◌ {A = Acceptance} (Ok q) (Ok s) → q ≡ s
planned_one e = cc

refused_planned : {A : Type 0} {r : Refusal} {q : Plan} → ◌≡◌ {A = Acceptance} (Err r) (Ok q) → A
refused_planned e = let z : ◌≡◌ {A = ℕ} 0 1 = cc in absurd (omega arith)

module _ (d : Data) (p : ℕ) (o : GwrOptions) (out : ℕ) where
  abbrev u : Setup
  u = setup_of d p o

  -- the input's lists, then the options
  pub accept_is : accept_of d p o out ≡ ruled (judge (input_tests d p out)) Err (plan_options u d)
  unfolding accept_of plan_options_at
  accept_is = ruled_append Err (Ok (plan_of u d)) (input_tests d p out) (option_tests u d)

  pub accept_refused : {r : Refusal} → judge (input_tests d p out) ≡ Err r → Err r ≡ accept_of d p o out
  accept_refused e = refused_so Err (plan_options u d) e ∙ sym accept_is

  pub accept_passed : {a : Acceptance} → NoneOf (input_tests d p out) → a ≡ plan_options u d → a ≡ accept_of d p o out
  accept_passed e f = given_so Err (plan_options u d) e f ∙ sym accept_is

  -- which inputs are refused, and what the others are given
  pub accept_decides : Decides (fit_tests d p o out) (λ (r : Refusal). accept_of d p o out ≡ Err r) (accept_of d p o out ≡ Ok (plan_of u d))
  unfolding accept_of
  accept_decides = decides (fit_tests d p o out) refl

  pub accept_planned : {q : Plan} → accept_of d p o out ≡ Ok q → PlannedAs d p o out q
  accept_planned {q} e =
      elim (decided (fit_tests d p o out)) [
        | inl f ↦ refused_planned (sym (accept_decides.refused f.0 f.1) ∙ e)
        | inr n ↦
            let a = input_accepted d p out o (none_append (input_tests d p out) (option_tests u d) n).0 in
            let i : q ≡ plan_of u d = planned_one (sym e ∙ accept_decides.served n) in
            record { passed = n; accepted = a; is = i; serves = subst⁻¹ (Serves o.bandwidth) i (plan_serves u a.shaped.sized (greatest_distance d.coords u.n)) }
      ]
