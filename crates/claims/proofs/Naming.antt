-- An unsearched fit by a count: the final fit with what the count becomes, and so the fit by that count once it is named. Assumes nothing.
use Rattle.refusal.specs.declared.Refusal.{Refusal}
use Rattle.std.specs.Prelude.{Ok, Err, Some, None, Result, Option}
use mathlib.Core.Path.{◌≡◌, refl, sym, ap, ◌∙◌}
use mathlib.Core.Bool.{true}
use mathlib.Core.List.{List}
use Prim.Native.Nat.{ℕ, ◌+◌}
use native.Mathlib.Omega.{arith}
use lib.ListN.{length}
use lib.Ieee.{Float}
use Rattle.std.specs.Prelude.{Ok, Err}
use Rattle.claims.specs.Words.{ruled, judge, NoneOf, Check, GwrKernel, GwrCriterion, GwrBandwidth, AdaptiveKnn, Setup, Data, setup_of, resolve_count, weight_from, weights_from, normal_step, equations_of, eliminated_of, coefficients_under, fit_coefficients, squares_step, sum_squares, local_r_squared, values_at, solve_local, solve_location, Solved, corrected_aic, unusable_given, seeks_distance, nothing_between, option_tests_at, fit_tests, resolve_initial_bandwidth, plan_at, accepted, accept_of, Acceptance, Settled, row_found, after_solve, visit_at, visit, fit_all_locations, ending_at, Sweep, Swept, solves_of, finish_of, answered, fit_from, final_of, gwr_fit, fitted}
use Rattle.claims.specs.DemandTwo.{by_count}
use Rattle.claims.proofs.Laws.{related, named_count}

-- ---- of the options a final fit sees only the kernel and the criterion

module _ (d : Data) (c : GwrCriterion) (kernel : GwrKernel) (n p j k : ℕ) (b : GwrBandwidth) where
  abbrev u : Setup
  u = record { options = by_count c kernel j; n = n; p = p }

  abbrev v : Setup
  v = record { options = by_count c kernel k; n = n; p = p }

  solve_blind : (i : ℕ) → solve_location u d b i ≡ solve_location v d b i
  unfolding solve_location solve_local weights_from weight_from fit_coefficients coefficients_under eliminated_of equations_of normal_step values_at local_r_squared sum_squares squares_step
  solve_blind i = refl

  row_blind : (o : Result Solved Refusal) (i : ℕ) (out : List Float) → row_found o u i out ≡ row_found o v i out
  row_blind (Ok w) i out = refl
  row_blind (Err r) i out = refl

  visit_blind : (c : Option Refusal) (i : ℕ) (s : Swept × List Float) → visit_at c true u d b i s ≡ visit_at c true v d b i s
  visit_blind None i s =
      let w = solve_location v d b i in
      ap (λ (w : Result Solved Refusal). (after_solve s.0.sweep w, row_found w u i s.1)) (solve_blind i)
      ∙ ap (λ (out : List Float). (after_solve s.0.sweep w, out)) (row_blind w i s.1)
  visit_blind (Some r) i s = refl

  sweep_blind : (out : List Float) → fit_all_locations true u d b out ≡ fit_all_locations true v d b out
  unfolding fit_all_locations visit
  sweep_blind out =
      related (visit true u d b) (visit true v d b) 0 n ◌≡◌ (λ i s t _ e. ap (visit true u d b i) e ∙ visit_blind t.0.stopped i t) _ _ (omega arith) refl

  ending_blind : (c : Option Refusal) (s : Sweep) → ending_at c u s ≡ ending_at c v s
  unfolding corrected_aic
  ending_blind None s = refl
  ending_blind (Some r) s = refl

  final_blind : (out : List Float) → final_of u d b 0 out ≡ final_of v d b 0 out
  unfolding final_of
  final_blind out =
      let t = fit_all_locations true v d b out in
      ap (λ (s : Swept × List Float). (fit_from u b 0 s.0, s.1)) (sweep_blind out)
      ∙ ap (λ (c : Result Float Refusal). (record { finish = finish_of c b (0 + solves_of t.0); rows = t.0.sweep.location }, t.1)) (ending_blind t.0.stopped t.0.sweep)

  answered_blind : (c : Check) (out : List Float) → answered (accepted c (Settled b)) u d out ≡ answered (accepted c (Settled b)) v d out
  unfolding ruled
  answered_blind (Ok passed) out = ap fitted (final_blind out)
  answered_blind (Err r) out = refl

-- ---- and the plan of a count is that of what it becomes

module _ (d : Data) (p : ℕ) (c : GwrCriterion) (kernel : GwrKernel) (k : ℕ) (out : List Float) where
  abbrev n : ℕ
  n = (setup_of d p (by_count c kernel k)).n

  abbrev named : ℕ
  named = resolve_count k n p

  abbrev passes : Check
  passes = judge (fit_tests d p (by_count c kernel k) (length out))

  accept_count : accept_of d p (by_count c kernel k) (length out) ≡ accepted passes (Settled (AdaptiveKnn named))
  unfolding accept_of plan_at resolve_initial_bandwidth
  accept_count = refl

  accept_named : accept_of d p (by_count c kernel named) (length out) ≡ accepted passes (Settled (AdaptiveKnn named))
  unfolding accept_of plan_at resolve_initial_bandwidth option_tests_at unusable_given nothing_between seeks_distance
  accept_named = ap (λ (c : ℕ). accepted passes (Settled (AdaptiveKnn c))) (named_count k n p)

  pub by_count_lem : NoneOf (fit_tests d p (by_count c kernel k) (length out)) → gwr_fit d p (by_count c kernel k) out ≡ fitted (final_of (setup_of d p (by_count c kernel k)) d (AdaptiveKnn named) 0 out)
  unfolding gwr_fit ruled
  by_count_lem h =
      ap (λ (a : Acceptance). answered a (setup_of d p (by_count c kernel k)) d out) (accept_count ∙ ap (λ (c : Check). accepted c (Settled (AdaptiveKnn named))) h)

  pub count_named : gwr_fit d p (by_count c kernel k) out ≡ gwr_fit d p (by_count c kernel named) out
  unfolding gwr_fit
  count_named =
      ap (λ (a : Acceptance). answered a (setup_of d p (by_count c kernel k)) d out) accept_count
      ∙ answered_blind d c kernel n p k named (AdaptiveKnn named) passes out
      ∙ ap (λ (a : Acceptance). answered a (setup_of d p (by_count c kernel named)) d out) (sym accept_named)
