-- What beginning gives where it refuses nothing: the job of the plan, a state that holds, and data and output that no turn refuses.
use mathlib.Core.Path.{◌≡◌, refl, sym, ap, subst, subst⁻¹, ◌∙◌}
use mathlib.Core.List.{List}
use Prim.Native.Nat.{ℕ, ◌+◌, ◌*◌}
use native.Mathlib.Omega.{arith}
use borrow.Author.Tests.{eq-eqb, le-ltb}
use lib.ListN.{length}
use lib.Ieee.{Float}
use Rattle.std.specs.Prelude.{Ok, Err}
use Rattle.claims.specs.Words.{judge, GwrBandwidth, Fixed, AdaptiveKnn, GwrOptions, Setup, Data, trust_count, setup_of, Sized, Bracket, Plan, Acceptance, value_tests, output_tests, lengths_fit, plan_of, accept_of, planned, answered, gwr_fit, Stage, First, Final, Job, fresh_job, OfKind, TrialsAt, Sound, start_job, begun_with, begin_of, lent_tests, fitted}
use Rattle.claims.proofs.Laws.{Serves, accept_planned, Accepted, kind_at, Holds}
use Rattle.plan.specs.declared.Plan.TheVariants as plan
use Rattle.std.specs.Prelude.{Result, Ok}
use Rattle.refusal.specs.declared.Refusal.{Refusal}

-- ---- the bandwidth is of the options' kind

settled_kind : (kind b : GwrBandwidth) → Serves kind (plan.Settled b) → OfKind kind b
settled_kind (Fixed a) (Fixed b) s = tt
settled_kind (Fixed a) (AdaptiveKnn k) s = s.1
settled_kind (AdaptiveKnn j) (Fixed b) s = s.1
settled_kind (AdaptiveKnn j) (AdaptiveKnn k) s = s.0

-- ---- the job

fresh_sound : (u : Setup) (x : Stage) (g : Bracket) (b : GwrBandwidth) → Sized u → OfKind u.options.bandwidth b → TrialsAt x 0 → Sound 0 (fresh_job u x g b)
fresh_sound u x g b z k t = record { sized = z; within = omega (arith, z.enough); kind = k; solves = omega arith; trials = t }

planned_holds : (u : Setup) (out : List Float) → Sized u → (q : Plan) → Serves u.options.bandwidth q → Holds u (length out) (start_job u q, out)
planned_holds u out z (plan.Settled b) v =
    record { setup = refl; held = fresh_sound u Final _ b z (settled_kind u.options.bandwidth b v) (omega arith); length_is = refl }
planned_holds u out z (plan.Sought lo hi) v =
    record { setup = refl; held = fresh_sound u First _ _ z (kind_at u _ z) refl; length_is = refl }

module _ (d : Data) (p : ℕ) (o : GwrOptions) (out : List Float) where
  abbrev u : Setup
  u = setup_of d p o

  abbrev own : Plan
  own = plan_of u d

  -- the input was accepted, job and fit are those of the plan, and the state that beginning gives holds
  pub record Started (j : Job) : Type 0 where
    pub accepted : Accepted d p o (length out)
    pub plan : accept_of d p o (length out) ≡ Ok own
    pub job : j ≡ start_job u own
    pub fit : gwr_fit d p o out ≡ fitted (planned own u d out)
    pub holds : Holds u (length out) (j, out)

  with_plan : (q : Plan) (j : Job) → accept_of d p o (length out) ≡ Ok q → ◌≡◌ {A = Result Job Refusal} (Ok (start_job u q)) (Ok j) → Started j
  unfolding gwr_fit
  with_plan q j e h =
      let s = accept_planned d p o (length out) e in
      let i : accept_of d p o (length out) ≡ Ok own = e ∙ ap Ok s.is in
      let made : start_job u q ≡ j = cc in
      let job : j ≡ start_job u own = sym made ∙ ap (start_job u) s.is in
      record {
        accepted = s.accepted;
        plan = i;
        job = job;
        fit = ap (λ (a : Acceptance). answered a u d out) i;
        holds =
            subst⁻¹ (λ (k : Job). Holds u (length out) (k, out)) job
            (planned_holds u out s.accepted.shaped.sized own (subst (Serves o.bandwidth) s.is s.serves));
      }

  pub started : (j : Job) → begin_of d p o (length out) ≡ Ok j → Started j
  unfolding begin_of
  started j h = go (accept_of d p o (length out)) refl h
    where
      go : (a : Acceptance) → accept_of d p o (length out) ≡ a → begun_with a u ≡ Ok j → Started j
      go (Err r) e h = let z : ◌≡◌ {A = ℕ} 0 1 = cc in absurd (omega arith)
      go (Ok q) e h = with_plan q j e h

  -- ---- what is lent
  pub lent_passes : Accepted d p o (length out) → judge (lent_tests u d (length out)) ≡ Ok tt
  unfolding judge lent_tests lengths_fit value_tests output_tests
  lent_passes a =
      let s = a.shaped in
      rw (eq-eqb (length d.coords) (2 * u.n) s.places, eq-eqb (length d.predictors) (u.n * p) s.rows, eq-eqb (length d.responses) u.n s.answers, eq-eqb (trust_count d) u.n s.trusted, a.responses_finite, a.places_finite, a.rows_finite, a.trusts_fit_lem, le-ltb (length out) (u.n * (p + 4)) a.room)
