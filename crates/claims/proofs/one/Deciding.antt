-- The fit, beginning and the weight of a distance: which inputs are refused, and what is served.
use Rattle.std.specs.Prelude.{Result, Err, IsOkAnd}
use Rattle.gwr.specs.declared.Fit.{Fit}
use mathlib.Core.Path.{◌≡◌, ap, subst, subst⁻¹}
use mathlib.Core.List.{List, []}
use Prim.Native.Nat.{ℕ, ◌*◌, ◌≤◌}
use lib.ListN.{length, replicate, length-replicate}
use lib.Ieee.{Float}
use Rattle.claims.specs.Words.{zero64, Refusal, NoneOf, Decides, GwrOptions, Setup, Data, setup_of, Plan, Acceptance, fit_tests, plan_of, accept_of, answered, gwr_fit, Job, start_job, begun_with, begin_of}
use Rattle.claims.proofs.Laws.{accept_decides, fit_means}
use Rattle.std.specs.Prelude.{Ok, Err}
use Rattle.claims.specs.Whole.{to_final, count_of}
use Rattle.claims.specs.Turns.{AllLawful}
use Rattle.claims.specs.DemandOne.{JobServed, BeginServed, FitServed}
use Rattle.claims.proofs.Starting.{started}
use Rattle.claims.proofs.DemandThree.{demand_three}
use Rattle.claims.proofs.one.Served.{final_finished}

-- ---- the fit and beginning

module _ (d : Data) (p : ℕ) (o : GwrOptions) where
  abbrev u : Setup
  u = setup_of d p o

  abbrev q : Plan
  q = plan_of u d

  abbrev own_job : Job
  own_job = start_job u q

  -- what an acceptance makes of beginning
  begun_as : (out : ℕ) (a : Acceptance) → accept_of d p o out ≡ a → begin_of d p o out ≡ begun_with a u
  unfolding begin_of
  begun_as out a e = ap (λ (z : Acceptance). begun_with z u) e

  module _ (out : List Float) where
    -- an accepted job begins
    ready : NoneOf (fit_tests d p o (length out)) → begin_of d p o (length out) ≡ Ok own_job
    ready h = begun_as (length out) (Ok q) ((accept_decides d p o (length out)).served h)

    fit_served : NoneOf (fit_tests d p o (length out)) → JobServed d p o out
    unfolding AllLawful
    fit_served h =
        let z = demand_three d p o out own_job (ready h) [] tt in
        let a = (started d p o out own_job (ready h)).accepted in
        let f = final_finished u d (to_final q u d).0 (to_final q u d).1 out a.room a.shaped.sized.narrow in
        let most = subst (λ (w : Result Fit Refusal × List Float). count_of w.0 ≤ 103 * u.n) z.final z.bound in
        subst⁻¹ (λ (w : Result Fit Refusal × List Float). IsOkAnd w.0 (λ (g : Fit). FitServed u d (to_final q u d).0 (to_final q u d).1 out (g, w.1))) z.final
        (record { answered = f.answered; written = f.written; untouched = f.untouched; long = f.long; solves = most })

    pub fit_decides : Decides (fit_tests d p o (length out)) (λ (r : Refusal). gwr_fit d p o out ≡ (Err r, out)) (JobServed d p o out)
    unfolding gwr_fit
    fit_decides = record { refused = λ r h. ap (λ (a : Acceptance). answered a u d out) ((accept_decides d p o (length out)).refused r h); served = fit_served }

    begin_served : NoneOf (fit_tests d p o (length out)) → BeginServed (begin_of d p o (length out))
    begin_served h = let s = started d p o out own_job (ready h) in record { job = own_job; made = ready h; fit = (fit_means _).1 s.holds.held }

  -- of any length of output
  pub begin_decides : (out : ℕ) → Decides (fit_tests d p o out) (λ (r : Refusal). begin_of d p o out ≡ Err r) (BeginServed (begin_of d p o out))
  begin_decides out =
      record {
        refused = λ r h. begun_as out (Err r) ((accept_decides d p o out).refused r h);
        served = subst (λ (k : ℕ). NoneOf (fit_tests d p o k) → BeginServed (begin_of d p o k)) (length-replicate out zero64) (begin_served (replicate out zero64));
      }
