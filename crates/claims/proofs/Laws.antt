-- The laws that the proofs of the demands take from the crates below, handed on in the order of the crates. No proof.
pub use Rattle.real.proofs.Cases.{either, never}
pub use Rattle.real.proofs.Finite.{at_each}
pub use Rattle.real.proofs.Fold.{kept, related}
pub use Rattle.real.proofs.RoundedOnce.{plus_once, minus_once, times_once, over_once, opposite_exact, less_exact, constants_exact}
pub use Rattle.real.proofs.SignedOrder.{nonneg, here_or_on, apart, le_tr, le_total, lt→le, nlt→le}
pub use Rattle.root.proofs.Nearest.{root_nearest, root_of_negative, root_of_nan, root_of_infinity, root_of_zero}
pub use Rattle.root.proofs.Order.{root_fits}
pub use Rattle.elementary.proofs.ExpRange.{exp_in, K-le}
pub use Rattle.accuracy.proofs.Accurate.{near_power_series}
pub use Rattle.elementary.proofs.LnRange.{ln_finite}
pub use Rattle.elementary.proofs.SplitExact.{split_exact}
pub use Rattle.checks.proofs.Judge.{none_append, none_head, ruled_pass, ruled_refused}
pub use Rattle.checks.proofs.Means.{not_means, and_means, or_means, equal_means, below_means}
pub use Rattle.kernel.proofs.DistanceRange.{squares_nonneg}
pub use Rattle.kernel.proofs.Published.{weight_rounded, weight_apart, gaussian_exact, bisquare_exact, bisquare_outside, exponential_exact}
pub use Rattle.kernel.proofs.Reaches.{squares_fits, distance_is}
pub use Rattle.kernel.proofs.WeightRange.{weights_in, weight_zero}
pub use Rattle.counts.proofs.Roots.{ceil_root_least}
pub use Rattle.counts.proofs.Defaults.{default_count, given_count, named_count}
pub use Rattle.neighbours.proofs.Smallest.{nearest_is_kth, all_ascending, all_met}
pub use Rattle.weights.proofs.Products.{product_in}
pub use Rattle.weights.proofs.WeightSum.{TrustAt, weight_sum}
pub use Rattle.weights.proofs.Ones.{one_at, times_whole, ones_weights}
pub use Rattle.estimate.proofs.Meanings.{weightless_means, inverse_not_finite_means, coefficient_not_finite_means}
pub use Rattle.estimate.proofs.Blind.{fit_blind}
pub use Rattle.evaluate.proofs.Blind.{values_blind}
pub use Rattle.estimate.proofs.NormalEquations.{exact_solves}
pub use Rattle.row.proofs.Rows.{row_within, row_long, put_long}
pub use Rattle.local.proofs.Lengths.{beta_eight}
pub use Rattle.local.proofs.Refusals.{AtFit, AtLocation, OutcomeBy, OutcomeAt, location_at, weighed_at}
pub use Rattle.criterion.proofs.Published.{published_exact, aicc_rounded, aicc_refused, aicc_exhausted, aicc_floored}
pub use Rattle.criterion.proofs.Guard.{guard_same, guard_differs, guard_nan}
pub use Rattle.golden.proofs.Kiefer.{round_kiefer, searched, round_narrows, bottom_kept, bottom_stays, search_span}
pub use Rattle.golden.proofs.Points.{near_golden, start_section, round_section, residues, golden_section}
pub use Rattle.golden.proofs.Round.{G-is, G2-is}
pub use Rattle.input.proofs.Accepted.{Accepted, input_accepted}
pub use Rattle.input.proofs.Meanings.{not_finite_means, trust_out_of_range_means, unusable_distance_means, no_distance_range_means, lengths_fit_means}
pub use Rattle.plan.proofs.Planned.{Serves, accept_planned, accept_decides}
pub use Rattle.plan.proofs.Ranges.{sought_ranged}
pub use Rattle.sweep.proofs.Reached.{ReachedAt, sweep_reached, stopped_at, reached_few}
pub use Rattle.sweep.proofs.Sweeps.{pair, sweep_same, sweep_left}
pub use Rattle.search.proofs.Literal.{trial_num, loop_literal, lesser_is, variables_of, body_is, left, front, opened_is}
pub use Rattle.gwr.proofs.Literal.{sought_literal, fit_literal}
pub use Rattle.stepping.proofs.Keeping.{Holds, holds_step, step_setup, kind_at, sound_held}
pub use Rattle.stepping.proofs.Sounds.{sound_few}
pub use Rattle.fitness.proofs.Fits.{fit_means, kinds_means, ended_few}
pub use Rattle.job.proofs.Runs.{steps_keep, run_few, run_keeps}
pub use Rattle.job.proofs.Turning.{turn_ended, turn_lent, turn_decides}
pub use Rattle.request.proofs.Options.{unknown_means, bytes_unguarded}
pub use Rattle.weighing.proofs.Judged.{weigh_decides, weight_decides, weight_known, distance_means}
pub use Rattle.calls.proofs.Judged.{call_decides}
pub use Rattle.calls.proofs.Served.{call_passed, call_untouched}
pub use Rattle.listing.proofs.Judged.{printed_decides, print_passed}
