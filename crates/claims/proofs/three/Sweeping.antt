-- A sweep of the uninterrupted fit is as many steps of the job as it makes solves.
use Rattle.refusal.specs.declared.Refusal.{Refusal}
use Rattle.std.specs.Prelude.{Ok, Err, Some, None, Result, Option}
use mathlib.Core.Path.{◌≡◌, refl, sym, ap, subst, ◌∙◌}
use mathlib.Core.Bool.{Bool, false}
use mathlib.Core.List.{List}
use Prim.Native.Nat.{ℕ, zero, suc, ◌+◌, ◌-◌, ◌≤◌, ◌<◌}
use native.Mathlib.Nat.{zero-add, add-zero}
use native.Mathlib.Omega.{arith}
use borrow.Author.Tests.{eq-eqb, ne_eqb}
use lib.Ieee.{Float}
use Rattle.claims.specs.Words.{turns, range, GwrBandwidth, Setup, Data, Solved, solve_location, Bracket, Sweep, Swept, new_sweep, after_solve, row_after, visit, fit_all_locations, sweep_of, solves_of, ending_of, Stage, Job, is_ended, is_final, close_at, close_job, pass_job, after_outcome, step_job, step_out, step_of, is_over}
use Rattle.claims.proofs.Laws.{pair, sweep_same, sweep_left}
use Rattle.claims.specs.Turns.{JobState}
use Rattle.claims.proofs.three.Leading.{Leads, leads_none, leads_one, leads_then}

-- a job of the setup u from its fields
abbrev pub job_at : Setup → Stage → Bracket → GwrBandwidth → Sweep → ℕ → ℕ → Job
job_at u l g b w m c =
    record { setup = u; stage = l; trials = record { bracket = g; made = m }; bandwidth = b; sweep = w; solves = c }

-- the state at the start of a sweep
abbrev pub start_at : Setup → Stage → Bracket → GwrBandwidth → ℕ → ℕ → List Float → JobState
start_at u l g b m c out = (job_at u l g b new_sweep m c, out)

-- 01: a job that ends keeps the location of its last solve
abbrev pub last_at : Option Refusal → Sweep → Sweep
last_at None w = record { location = w.location - 1; trace = w.trace; squares = w.squares }
last_at (Some r) w = w

module _ (u : Setup) (d : Data) where
  -- so many steps of the job, with its data
  abbrev pub Leading : ℕ → JobState → JobState → Type 0
  Leading = Leads (step_of d) is_over

  module _ (l : Stage) (g : Bracket) (b : GwrBandwidth) (m c : ℕ) (out : List Float) where
    abbrev start : JobState
    start = start_at u l g b m c out

    -- the state after the whole sweep s, with the output that it left
    abbrev pub swept : Swept × List Float → JobState
    swept s = (close_at l (job_at u l g b (last_at s.0.stopped s.0.sweep) m (c + solves_of s.0)) (ending_of u s.0), s.1)

    -- the state at the location of a sweep that goes on
    abbrev within : Sweep → List Float → JobState
    within w o = (job_at u l g b w m (c + w.location), o)

    -- after i locations, not all
    abbrev LedAt : Option Refusal → ℕ → Sweep → List Float → Type 0
    LedAt None i w o = (w.location ≡ i) × Leading w.location start (within w o)
    LedAt (Some r) i w o = Leading (w.location + 1) start (swept (record { stopped = Some r; sweep = w }, o))

    abbrev Led : ℕ → Swept × List Float → Type 0
    Led i s = LedAt s.0.stopped i s.0.sweep s.1

    -- after all
    abbrev Through : Swept × List Float → Type 0
    Through s = Leading (solves_of s.0) start (swept s)

    module _ (live : is_ended l ≡ false) (w : Sweep) (o : List Float) (way : Leading w.location start (within w o)) where
      abbrev solved : Result Solved Refusal
      solved = solve_location u d b w.location

      -- the output after the location
      abbrev behind : List Float
      behind = row_after (is_final l) u w.location solved o

      -- one step, with the outcome q
      one : (q : Result Solved Refusal) (t : Job) → solved ≡ q → after_outcome (within w o).0 q ≡ t → Leading (w.location + 1) start (t, behind)
      unfolding step_of step_job step_out
      one q t e h = leads_then way (leads_one live (ap (λ (z : Result Solved Refusal). (after_outcome (within w o).0 z, behind)) e ∙ ap (λ (j : Job). (j, behind)) h))

      counts : c + w.location + 1 ≡ c + (w.location + 1)
      counts = omega arith

      -- a location that is not the last
      more : (q : Result Solved Refusal) → w.location + 1 < u.n → solved ≡ q → Led (w.location + 1) (after_solve w q, behind)
      unfolding pass_job close_job
      more (Ok v) h e = (refl, one (Ok v) _ e (rw (ne_eqb (w.location + 1) u.n (omega arith), counts)))
      more (Err r) h e = one (Err r) _ e (rw counts)

      -- the last location
      last : (q : Result Solved Refusal) → w.location + 1 ≡ u.n → solved ≡ q → Through (after_solve w q, behind)
      unfolding pass_job close_job
      last (Ok v) h e =
          let f : w.location + 1 - 1 ≡ w.location = omega arith in
          one (Ok v) _ e (rw (eq-eqb (w.location + 1) u.n h, counts, f))
      last (Err r) h e = one (Err r) _ e (rw counts)

    module _ (live : is_ended l ≡ false) where
      visit_more : (i : ℕ) → i + 1 < u.n → (e : Option Refusal) (w : Sweep) (o : List Float) → LedAt e i w o → Led (i + 1) (visit (is_final l) u d b i (record { stopped = e; sweep = w }, o))
      unfolding visit
      visit_more i h (Some r) w o p = p
      visit_more i h None w o p =
          subst (λ (k : ℕ). Led (k + 1) (visit (is_final l) u d b k (record { stopped = None; sweep = w }, o))) p.0 (more live w o p.1 _ (omega (arith, h, p.0)) refl)

      visit_last : (i : ℕ) → i + 1 ≡ u.n → (e : Option Refusal) (w : Sweep) (o : List Float) → LedAt e i w o → Through (visit (is_final l) u d b i (record { stopped = e; sweep = w }, o))
      unfolding visit
      visit_last i h (Some r) w o p = p
      visit_last i h None w o p =
          subst (λ (k : ℕ). Through (visit (is_final l) u d b k (record { stopped = None; sweep = w }, o))) p.0 (last live w o p.1 _ (omega (arith, h, p.0)) refl)

      abbrev visited : ℕ → Swept × List Float
      visited i = turns (visit (is_final l) u d b) 0 i (record { stopped = None; sweep = new_sweep }, out)

      led : (i : ℕ) → i < u.n → Led i (visited i)
      unfolding turns
      led zero h = (refl, rw add-zero (leads_none _))
      led (suc i) h =
          let s = visited i in
          let e : i + 1 ≡ suc i = omega arith in
          subst (λ (k : ℕ). Led k (visit (is_final l) u d b (0 + i) s)) e (rw zero-add (visit_more i (omega arith) s.0.stopped s.0.sweep s.1 (led i (omega arith))))

      -- a whole sweep
      pub sweep_leads : 1 ≤ u.n → Through (fit_all_locations (is_final l) u d b out)
      unfolding fit_all_locations range turns
      sweep_leads some =
          let i = u.n - 1 in
          let s = visited i in
          let e : suc i ≡ u.n - 0 = omega arith in
          subst (λ (k : ℕ). Through (visited k)) e (rw zero-add (visit_last i (omega arith) s.0.stopped s.0.sweep s.1 (led i (omega arith))))

      -- one that writes no rows
      pub trial_leads : is_final l ≡ false → 1 ≤ u.n → Through (sweep_of u d b, out)
      trial_leads off some =
          let same : fit_all_locations false u d b out ≡ (sweep_of u d b, out) = pair (sym (sweep_same u d b false out)) (sweep_left u d b out) in
          subst Through same (subst (λ (z : Bool). Through (fit_all_locations z u d b out)) off (sweep_leads some))
