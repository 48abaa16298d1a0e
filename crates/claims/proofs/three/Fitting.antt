-- From beginning, as many steps as the uninterrupted fit makes solves lead to its end.
use Rattle.refusal.specs.declared.Refusal.{Refusal}
use Rattle.std.specs.Prelude.{Ok, Err, Some, None, Result, Option}
use mathlib.Core.Path.{◌≡◌, refl, sym, ap, ◌∙◌}
use mathlib.Core.Bool.{true}
use mathlib.Core.List.{List}
use Prim.Native.Nat.{ℕ, ◌+◌, ◌≤◌}
use native.Mathlib.Omega.{arith}
use lib.ListN.{length}
use lib.Ieee.{Float}
use Rattle.claims.specs.Words.{GwrBandwidth, Setup, Data, Bracket, no_bracket, Plan, Sweep, fit_all_locations, solves_of, ending_at, ending_of, finish_of, optimize_bandwidth, Fit, final_of, fitted, rows_written, sought_of, planned, Final, step_of, is_over, start_job, steps, answer_at}
use Rattle.claims.proofs.Laws.{ReachedAt, sweep_reached, stopped_at, reached_few}
use Rattle.plan.specs.declared.Plan.TheVariants as plan
use Rattle.claims.specs.Written.{rows_ended, written_rows}
use Rattle.claims.specs.Whole.{count_of, ended_with, trials_of}
use Rattle.claims.specs.Turns.{JobState}
use Rattle.claims.proofs.Untouched.{aic_rows, at_rows}
use Rattle.claims.proofs.three.Leading.{leads_none, leads_then}
use Rattle.claims.proofs.three.Sweeping.{start_at, last_at, Leading, swept, sweep_leads}
use Rattle.claims.proofs.three.Searching.{golden_leads}

count_is : (c : Result Float Refusal) (b : GwrBandwidth) (k : ℕ) → (finish_of c b k).summary.solves ≡ k
count_is (Ok v) b k = refl
count_is (Err r) b k = refl

-- the final fit's bandwidth, and the solves before it, as the search's steps have them
abbrev pub found_bandwidth : Plan → Setup → Data → GwrBandwidth
found_bandwidth (plan.Settled b) u d = b
found_bandwidth (plan.Sought lo hi) u d = (optimize_bandwidth u d lo hi).bandwidth

abbrev pub found_solves : Plan → Setup → Data → ℕ
found_solves (plan.Settled b) u d = 0
found_solves (plan.Sought lo hi) u d = (optimize_bandwidth u d lo hi).solves

module _ (u : Setup) (d : Data) where
  ended_rows : (b : GwrBandwidth) (e : Option Refusal) (s : Sweep) → ReachedAt u d b e u.n s → rows_ended (ending_at e u s) u.n (last_at e s).location ≡ s.location
  ended_rows b None s h = aic_rows u _ s.squares s.trace ∙ sym h
  ended_rows b (Some r) s h = at_rows r u.n s.location (stopped_at u d b r u.n s h)

  -- the end of a job that began so, whose uninterrupted fit is f with the bandwidth b after m trials and c solves
  pub record Ends (begun : JobState) (f : Result Fit Refusal × List Float) (b : GwrBandwidth) (m c : ℕ) : Type 0 where
    pub end : JobState
    pub way : Leading u d (count_of f.0) begun end
    pub over : is_over end ≡ true
    pub said : answer_at end.0.stage end.0 ≡ ended_with f.0
    pub rows : end.1 ≡ f.1
    pub wrote : written_rows end.0 ≡ rows_written f.0
    pub least : c + rows_written f.0 ≤ count_of f.0
    pub most : count_of f.0 ≤ c + rows_written f.0 + 1
    pub final : let s = steps (step_of d) c begun in (s.0.stage ≡ Final) × (s.0.sweep.location ≡ 0)
    pub bandwidth : end.0.bandwidth ≡ b
    pub trials : end.0.trials.made ≡ m
    pub solves : end.0.solves ≡ count_of f.0

  module _ (some : 1 ≤ u.n) (out : List Float) where
    -- the final fit, to which c steps led
    final_ends : (begun : JobState) (g : Bracket) (b : GwrBandwidth) (m c : ℕ) → Leading u d c begun (start_at u Final g b m c out) → Ends begun (fitted (final_of u d b c out)) b m c
    unfolding final_of
    final_ends begun g b m c h =
        let s = fit_all_locations true u d b out in
        let k = c + solves_of s.0 in
        let counted = count_is (ending_of u s.0) b k in
        let reached = sweep_reached u d b true out in
        let few = reached_few u d b u.n s.0 reached in
        record {
          end = swept u d Final g b m c out s;
          way = rw counted (leads_then h (sweep_leads u d Final g b m c out refl some));
          over = refl;
          said = refl;
          rows = refl;
          wrote = ended_rows b s.0.stopped s.0.sweep reached;
          least = omega (arith, counted, few.rows);
          most = omega (arith, counted, few.failed);
          final = (ap (λ (z : JobState). z.0.stage) h.to, ap (λ (z : JobState). z.0.sweep.location) h.to);
          bandwidth = refl;
          trials = refl;
          solves = sym counted;
        }

    -- the whole fit, by its plan
    pub plan_ends : (q : Plan) → Ends (start_job u q, out) (fitted (planned q u d out)) (found_bandwidth q u d) (length (trials_of q u d)) (found_solves q u d)
    unfolding sought_of optimize_bandwidth
    plan_ends (plan.Settled b) = final_ends _ no_bracket b 0 0 (leads_none _)
    plan_ends (plan.Sought lo hi) = final_ends _ _ _ _ _ (golden_leads u d some out lo hi)

    -- the fit is a final fit at that bandwidth, after the search's solves
    pub plan_final : (q : Plan) → planned q u d out ≡ final_of u d (found_bandwidth q u d) (found_solves q u d) out
    unfolding sought_of
    plan_final (plan.Settled b) = refl
    plan_final (plan.Sought lo hi) = refl
