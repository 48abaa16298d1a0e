-- With trusts of 1 every solve, score, fit, beginning and turn is that of the same data with no trust asked for. Assumes nothing.
use Rattle.std.specs.Prelude.{Some, None, Result, Option}
use mathlib.Core.Path.{◌≡◌, refl, sym, ap, ◌∙◌}
use mathlib.Core.Bool.{Bool, true, false, cond}
use mathlib.Core.List.{List, []}
use Prim.Native.Nat.{ℕ, zero, suc}
use native.Mathlib.Omega.{arith}
use lib.ListN.{length, replicate, length-replicate}
use lib.Ieee.{Float, le, of_bits}
use borrow.Author.Tests.{not-false}
use Rattle.std.specs.Prelude.{Ok, Err, Result}
use Rattle.claims.specs.Words.{one64, all_of, all_in_unit, Refusal, judge, ruled, NoneOf, Check, GwrBandwidth, GwrOptions, Setup, Data, data_of, trusting, setup_of, lengths_fit, value_tests, input_tests, fit_tests, Plan, Settled, Sought, Acceptance, plan_of, accepted, accept_of, bandwidth_at, Solved, solve_local, solve_location, Swept, after_solve, row_after, visit_at, visit, fit_all_locations, Trial, trial_from, trial_of, Search, Optimum, scored_of, round_with, optimum_of, Bracket, start_of, aim_of, round_of, opened_of, golden_of, optimize_bandwidth, final_of, sought_of, planned, answered, gwr_fit, Job, step_job, step_out, step_of, is_over, is_final, after_outcome, run, begun_with, begin_of, lent_tests, turn_tests, refused_turn, ran_of, run_of, turn_of, fit_from, fitted, Coefficients, Values, solved_by}
use Rattle.claims.proofs.Laws.{related, none_append, none_head, ones_weights, fit_blind, values_blind, input_accepted, step_setup, lengths_fit_means}

-- ---- a fit sees its data through its solves

module _ (u : Setup) (d e : Data) (same : (b : GwrBandwidth) (i : ℕ) → solve_location u d b i ≡ solve_location u e b i) where
  visit_alike : (c : Option Refusal) (rows : Bool) (b : GwrBandwidth) (i : ℕ) (s : Swept × List Float) → visit_at c rows u d b i s ≡ visit_at c rows u e b i s
  visit_alike None rows b i s = ap (λ (v : Result Solved Refusal). (after_solve s.0.sweep v, row_after rows u i v s.1)) (same b i)
  visit_alike (Some r) rows b i s = refl

  sweep_alike : (rows : Bool) (b : GwrBandwidth) (out : List Float) → fit_all_locations rows u d b out ≡ fit_all_locations rows u e b out
  unfolding fit_all_locations visit
  sweep_alike rows b out =
      related (visit rows u d b) (visit rows u e b) 0 u.n ◌≡◌ (λ i s t _ h. ap (visit rows u d b i) h ∙ visit_alike t.0.stopped rows b i t) _ _ (omega arith) refl

  trial_alike : (point : Float) → trial_of u d point ≡ trial_of u e point
  unfolding trial_of
  trial_alike point = ap (λ (s : Swept × List Float). trial_from u s.0) (sweep_alike false (bandwidth_at u point) [])

  opened_alike : (g : Bracket) → opened_of u d g ≡ opened_of u e g
  unfolding opened_of
  opened_alike g = ap (λ (t : Trial). scored_of g t (trial_of u d g.d)) (trial_alike g.c) ∙ ap (scored_of g (trial_of u e g.c)) (trial_alike g.d)

  round_alike : (r : ℕ) (s : Search) → round_of u d r s ≡ round_of u e r s
  unfolding round_of
  round_alike r s = ap (λ (t : Trial). cond s.over s (round_with s t)) (trial_alike (aim_of s.bracket))

  optimum_alike : (lo hi : Float) → optimize_bandwidth u d lo hi ≡ optimize_bandwidth u e lo hi
  unfolding optimize_bandwidth golden_of
  optimum_alike lo hi =
      ap (optimum_of u) (related (round_of u d) (round_of u e) 0 100 ◌≡◌ (λ r s t _ h. ap (round_of u d r) h ∙ round_alike r t) _ _ (omega arith) (opened_alike (start_of lo hi)))

  final_alike : (b : GwrBandwidth) (before : ℕ) (out : List Float) → final_of u d b before out ≡ final_of u e b before out
  unfolding final_of
  final_alike b before out = ap (λ (s : Swept × List Float). (fit_from u b before s.0, s.1)) (sweep_alike true b out)

  planned_alike : (q : Plan) (out : List Float) → planned q u d out ≡ planned q u e out
  unfolding sought_of
  planned_alike (Settled b) out = final_alike b 0 out
  planned_alike (Sought lo hi) out = ap (λ (m : Optimum). final_of u d m.bandwidth m.solves out) (optimum_alike lo hi) ∙ final_alike _ _ out

step_alike : (d e : Data) (s : Job × List Float) → ((b : GwrBandwidth) (i : ℕ) → solve_location s.0.setup d b i ≡ solve_location s.0.setup e b i) → step_of d s ≡ step_of e s
unfolding step_of step_job step_out
step_alike d e s same =
    ap (λ (v : Result Solved Refusal). (after_outcome s.0 v, row_after (is_final s.0.stage) s.0.setup s.0.sweep.location v s.1))
    (same s.0.bandwidth s.0.sweep.location)

setup_kept : (d : Data) (s : Job × List Float) → (step_of d s).0.setup ≡ s.0.setup
unfolding step_of
setup_kept d s = step_setup d s.0

-- ---- trusts of 1

all_ones : (n : ℕ) → all_in_unit (replicate n one64) ≡ true
unfolding all_of le of_bits
all_ones zero = refl
all_ones (suc n) = all_ones n

-- the values alone tell what is solved apart
solved_alike : (f : Result Coefficients Refusal) (v w : Coefficients → Values) → ((c : Coefficients) → v c ≡ w c) → solved_by f v ≡ solved_by f w
unfolding solved_by
solved_alike (Ok c) v w h = ap (λ (z : Values). solved_by (Ok c) (λ _. z)) (h c)
solved_alike (Err r) v w h = refl

module _ (coords x y : List Float) where
  abbrev d : Data
  d = trusting coords x y

  abbrev e : Data
  e = data_of coords x y

  -- each solve: the weights are the same, and the rest sees no trust
  pub solve_trusting : (u : Setup) → length y ≡ u.n → (b : GwrBandwidth) (i : ℕ) → solve_location u d b i ≡ solve_location u e b i
  unfolding solve_location solve_local
  solve_trusting u many b i =
      rw (ones_weights u coords x y many, fit_blind) (solved_alike _ _ _ (λ c. values_blind u coords x y (replicate (length y) one64) _ i c.inverse c.beta _))

  pub score_trusting : (u : Setup) → length y ≡ u.n → (point : Float) → trial_of u d point ≡ trial_of u e point
  score_trusting u many point = trial_alike u d e (solve_trusting u many) point

  module _ (p : ℕ) (o : GwrOptions) where
    abbrev u : Setup
    u = setup_of e p o

    tests_alike : (out : ℕ) → fit_tests d p o out ≡ fit_tests e p o out
    unfolding input_tests value_tests
    tests_alike out = rw (length-replicate (length y) one64, all_ones (length y))

    accept_alike : (out : ℕ) → accept_of d p o out ≡ accept_of e p o out
    unfolding accept_of
    accept_alike out = ap (λ (l : List (Bool × Refusal)). accepted (judge l) (plan_of u e)) (tests_alike out)

    pub begin_trusting : (out : ℕ) → begin_of d p o out ≡ begin_of e p o out
    unfolding begin_of
    begin_trusting out = ap (λ (a : Acceptance). begun_with a u) (accept_alike out)

    answered_alike : (out : List Float) (k : Check) → judge (fit_tests e p o (length out)) ≡ k → answered (accepted k (plan_of u e)) u d out ≡ answered (accepted k (plan_of u e)) u e out
    unfolding ruled
    answered_alike out (Err r) h = refl
    answered_alike out (Ok passed) h =
        ap fitted (planned_alike u d e (solve_trusting u (input_accepted e p (length out) o (none_append (input_tests e p (length out)) _ h).0).shaped.answers) (plan_of u e) out)

    pub fit_trusting : (out : List Float) → gwr_fit d p o out ≡ gwr_fit e p o out
    unfolding gwr_fit accept_of
    fit_trusting out = ap (λ (a : Acceptance). answered a u d out) (accept_alike (length out)) ∙ answered_alike out (judge (fit_tests e p o (length out))) refl

  -- a run of steps keeps the job's sizes
  run_alike : (a : ℕ) (s : Job × List Float) → length y ≡ s.0.setup.n → run (step_of d) is_over a s ≡ run (step_of e) is_over a s
  unfolding run
  run_alike zero s many = refl
  run_alike (suc a) s many =
      ap (λ (r : (Job × List Float) × ℕ). cond (is_over s) (s, 0) (r.0, suc r.1))
      (ap (run (step_of d) is_over a) (step_alike d e s (solve_trusting s.0.setup many))
      ∙ run_alike a (step_of e s) (many ∙ ap (λ (u : Setup). u.n) (sym (setup_kept e s))))

  module _ (j : Job) (out : List Float) (a : ℕ) where
    turn_tests_alike : turn_tests j d (length out) ≡ turn_tests j e (length out)
    unfolding turn_tests lent_tests lengths_fit value_tests
    turn_tests_alike = rw (length-replicate (length y) one64, all_ones (length y))

    long_as : NoneOf (turn_tests j e (length out)) → length y ≡ j.setup.n
    unfolding turn_tests lent_tests
    long_as h = ((lengths_fit_means j.setup e).0 (not-false _ (none_head _ _ _ (none_head _ _ _ (none_head _ _ _ h).1).1).0)).1.1.0

    ruled_alike : (k : Check) → judge (turn_tests j e (length out)) ≡ k → ruled k (refused_turn j out) (run_of j d out a) ≡ ruled k (refused_turn j out) (run_of j e out a)
    unfolding ruled run_of
    ruled_alike (Err r) h = refl
    ruled_alike (Ok passed) h = ap ran_of (run_alike a (j, out) (long_as h))

    pub turn_trusting : turn_of j d out a ≡ turn_of j e out a
    unfolding turn_of
    turn_trusting =
        ap (λ (l : List (Bool × Refusal)). ruled (judge l) (refused_turn j out) (run_of j d out a)) turn_tests_alike ∙ ruled_alike (judge (turn_tests j e (length out))) refl
