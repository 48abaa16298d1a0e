-- Demand 2 holds: `demand_two`, at the end. Each part is a theorem of the crate that has the definition.
use mathlib.Core.Path.{ap}
use Prim.Native.Nat.{ℕ, ◌+◌, ◌*◌, ◌<◌}
use native.Mathlib.Omega.{arith}
use lib.Dec.{T}
use lib.ListN.{get_or}
use lib.Ieee.{nan}
use lib.Ieee.Scale.{finite}
use Rattle.std.specs.Prelude.{Some}
use Rattle.claims.specs.Words.{between, NoneOf, GwrOptions, Data, data_of, setup_of, Acceptance, fit_tests, answered, gwr_fit}
use Rattle.claims.proofs.Laws.{plus_once, minus_once, times_once, over_once, opposite_exact, less_exact, constants_exact, root_nearest, root_of_negative, root_of_nan, root_of_infinity, root_of_zero, exp_in, K-le, near_power_series, ln_finite, split_exact, weights_in, weight_zero, weight_rounded, weight_apart, gaussian_exact, bisquare_exact, bisquare_outside, exponential_exact, ceil_root_least, default_count, given_count, nearest_is_kth, all_ascending, all_met, product_in, published_exact, aicc_rounded, aicc_refused, aicc_exhausted, aicc_floored, guard_same, guard_differs, guard_nan, bytes_unguarded, G-is, G2-is, near_golden, start_section, round_section, residues, golden_section, round_kiefer, searched, round_narrows, bottom_kept, bottom_stays, exact_solves, fit_literal}
use Rattle.claims.proofs.Sums.{places, sum_at, weighs_at, never_weightless, one_weighs}
use Rattle.claims.proofs.Trusting.{solve_trusting, score_trusting, fit_trusting, begin_trusting, turn_trusting}
use Rattle.claims.specs.DemandTwo.{DemandTwo}
use Rattle.claims.proofs.Spanning.{job_span, job_searched}
use Rattle.claims.proofs.Naming.{by_count_lem, count_named}

-- ---- the coordinates of a location of an accepted job are finite

module _ (d : Data) (p : ℕ) (o : GwrOptions) (out : ℕ) (passed : NoneOf (fit_tests d p o out)) where
  east : (i : ℕ) → i < (setup_of d p o).n → T (finite (get_or d.coords (2 * i) nan))
  east i h = places d p o out passed (2 * i) (omega arith)

  north : (i : ℕ) → i < (setup_of d p o).n → T (finite (get_or d.coords (2 * i + 1) nan))
  north i h = places d p o out passed (2 * i + 1) (omega arith)

pub demand_two : DemandTwo
unfolding gwr_fit
demand_two =
    record {
      settled = λ d p o out b e. ap (λ (a : Acceptance). answered a (setup_of d p o) d out) e;
      searched = fit_literal;
      ratio = (G-is, G2-is);
      round_kiefer = round_kiefer;
      first_points = start_section;
      next_points = round_section;
      golden_section = golden_section;
      residues = residues;
      ratio_near = near_golden;
      search_span = job_span;
      points_inside = job_searched;
      span_inside = searched;
      bottom_kept = bottom_kept;
      bottom_stays = bottom_stays;
      round_narrows = round_narrows;
      normal_equations = exact_solves;
      root_nearest = root_nearest;
      root_negative = root_of_negative;
      root_own = (root_of_nan, root_of_infinity, root_of_zero);
      exp_range = exp_in;
      exp_halvings = K-le;
      exp_near_lem = near_power_series;
      ln_finite = ln_finite;
      ln_split_lem = split_exact;
      kernel_formula_lem = weight_rounded;
      kernel_spot = weight_apart;
      gaussian = gaussian_exact;
      bisquare = bisquare_exact;
      bisquare_outside = bisquare_outside;
      exponential = exponential_exact;
      plus_once = plus_once;
      minus_once = minus_once;
      times_once = times_once;
      over_once = over_once;
      opposite_exact = opposite_exact;
      less_exact = less_exact;
      constants_exact = constants_exact;
      weight_range = weights_in;
      weight_own = weight_zero;
      product_range = product_in;
      weight_sum = λ d p o out a i h b. sum_at d p o out a i h b;
      weighs = λ d p o out a i h b own. never_weightless _ (weighs_at d p o out a i h b own);
      weight_sum_untrusted = λ coords x y p o out a i h b. let s = sum_at (data_of coords x y) p o out a i h b in (s.0, s.1 one_weighs);
      trusting_solve = λ u coords x y many b i. solve_trusting coords x y u many b i;
      trusting_score = λ u coords x y many point. score_trusting coords x y u many point;
      trusting_fit = λ coords x y p o out. fit_trusting coords x y p o out;
      trusting_begin = λ coords x y p o out. begin_trusting coords x y p o out;
      trusting_turn = λ j coords x y out a. turn_trusting coords x y j out a;
      kth_smallest_lem = λ d p o out a i k h some. nearest_is_kth d.coords _ _ (Some i) (setup_of d p o).n (east d p o out a i h) (north d p o out a i h) (places d p o out a) k some;
      all_distances_lem = λ coords i m. all_met (Some i) (between coords i) m;
      ascending =
          λ d p o out a i h. all_ascending d.coords _ _ (Some i) (setup_of d p o).n (east d p o out a i h) (north d p o out a i h) (places d p o out a);
      default_count = default_count;
      least_root = ceil_root_least;
      given_count = given_count;
      by_count_lem = by_count_lem;
      count_named = count_named;
      aicc_formula_lem = aicc_rounded;
      aicc_order = published_exact;
      aicc_zero = aicc_floored;
      aicc_exhausted = aicc_exhausted;
      aicc_refused = aicc_refused;
      guard_same = guard_same;
      guard_differs = guard_differs;
      guard_nan = guard_nan;
      bytes_unguarded = bytes_unguarded;
    }
