-- The words that the demands and their proofs take from the crates below, handed on by one name each, in the order of the crates. No definition.
pub use Rattle.real.specs.Arithmetic.{rounded, Arithmetic, exact}
pub use Rattle.real.specs.Finite.{all_finite, in_unit, all_in_unit}
unfoldable pub use Rattle.real.specs.Finite.{all_of}
unfoldable pub use Rattle.real.specs.Fold.{turns, range}
pub use Rattle.real.specs.Fractions.{Fraction, fraction, fraction_of, Once, OnceBy}
pub use Rattle.real.specs.Matrix.{Row, Matrix}
pub use Rattle.real.specs.Reals.{zero64, from_count, one64, eps64, least_normal, inf64}
unfoldable pub use Rattle.real.specs.Reals.{greater, magnitude}
pub use Rattle.root.specs.Nearest.{NearestRoot}
unfoldable pub use Rattle.root.specs.Root.{root}
pub use Rattle.exponent_table.specs.Reduction.{floor708}
unfoldable pub use Rattle.exponent_table.specs.Reduction.{exp_k}
unfoldable pub use Rattle.elementary.specs.Exp.{expv}
unfoldable pub use Rattle.elementary.specs.Ln.{lnv}
pub use Rattle.elementary.specs.LnSteps.{LnFinite, SplitAs}
pub use Rattle.accuracy.specs.PowerSeries.{NearPowerSeries}
pub use Rattle.refusal.specs.Numbers.{refusal_number}
pub use Rattle.refusal.specs.declared.Refusal.{Refusal}
pub use Rattle.refusal.specs.declared.Refusal.TheVariants.{WeightSumNotPositive, Singular, InverseNotFinite, CoefficientNotFinite, UnfitRecord, AlreadyEnded, LengthsDiffer, ResponseNotFinite, CoordinateNotFinite, PredictorNotFinite, TrustOutOfRange, OutputTooShort, DeviationNotFinite}
pub use Rattle.checks.specs.Judge.{Check, NoneOf, Decides, FirstOf, Means}
unfoldable pub use Rattle.checks.specs.Judge.{judge, ruled}
pub use Rattle.kernel.specs.Published.{kernel_formula, exact_weight, power_of_e, plain_weight}
pub use Rattle.kernel.specs.Weight.{FromZeroToOne}
unfoldable pub use Rattle.kernel.specs.Weight.{squares_of, distance_of, weight_of, weighed, unusable}
pub use Rattle.kernel.specs.declared.GwrKernel.{GwrKernel}
pub use Rattle.kernel.specs.declared.GwrKernel.TheVariants.{Gaussian, Bisquare, Exponential}
pub use Rattle.setup.specs.Data.{Trusts, Data, data_of, trusting, count_in, trust_count}
pub use Rattle.setup.specs.Data.Trusts.{unasked, each}
pub use Rattle.setup.specs.Options.{under}
pub use Rattle.setup.specs.Shape.{setup_of, Sized}
pub use Rattle.setup.specs.declared.GwrBandwidth.{GwrBandwidth}
pub use Rattle.setup.specs.declared.GwrBandwidth.TheVariants.{Fixed, AdaptiveKnn}
pub use Rattle.setup.specs.declared.GwrCriterion.{GwrCriterion}
pub use Rattle.setup.specs.declared.GwrCriterion.TheVariants.{Unguarded, Guarded}
pub use Rattle.setup.specs.declared.GwrOptions.{GwrOptions}
pub use Rattle.setup.specs.declared.Setup.{Setup}
pub use Rattle.counts.specs.Count.{LeastRoot, resolve_count}
unfoldable pub use Rattle.counts.specs.Count.{ceil_root}
pub use Rattle.neighbours.specs.Bandwidth.{local_bandwidth_distance}
pub use Rattle.neighbours.specs.Smallest.{Ascending}
unfoldable pub use Rattle.neighbours.specs.Smallest.{all_distances, met_distances, kth_nearest}
pub use Rattle.neighbours.specs.Walk.{between, nearest_of}
pub use Rattle.weights.specs.Weights.{trusted_weight, weights_at}
unfoldable pub use Rattle.weights.specs.Weights.{weight_from, weights_from}
unfoldable pub use Rattle.normal.specs.Equations.{normal_step, equations_of}
pub use Rattle.estimate.specs.declared.Coefficients.{Coefficients}
unfoldable pub use Rattle.estimate.specs.Estimate.{coefficients_of, coefficients_finite, from_inverse, eliminated_of, from_eliminated, coefficients_under, fit_coefficients}
unfoldable pub use Rattle.estimate.specs.Inverse.{inverse_finite, inverse_cell}
pub use Rattle.estimate.specs.NormalEquations.{Exact, Solves}
unfoldable pub use Rattle.evaluate.specs.Evaluate.{squares_step, sum_squares, local_r_squared, values_at}
pub use Rattle.evaluate.specs.declared.Values.{Values}
unfoldable pub use Rattle.row.specs.Row.{put_row, row_of}
unfoldable pub use Rattle.local.specs.Solve.{solve_location, solved_by, solve_local}
pub use Rattle.local.specs.declared.Solved.{Solved}
pub use Rattle.criterion.specs.Aicc.{failed_summary, pi64}
unfoldable pub use Rattle.criterion.specs.Aicc.{corrected_aic, score_of, exhausted}
unfoldable pub use Rattle.criterion.specs.Published.{deviation, freedom, aicc_published, aicc_formula}
pub use Rattle.golden.specs.Golden.{no_bracket, first_of, G, G2, goes_left}
unfoldable pub use Rattle.golden.specs.Golden.{narrow_of, start_of, second_of, aim_of, tight_of, inv_phi, inv_phi2}
pub use Rattle.golden.specs.Kiefer.{Span, SearchInside, Inside, Framed, KieferRound, Narrowed, Valley, ScoredBy, Follows}
unfoldable pub use Rattle.golden.specs.Kiefer.{tried_of, played_of}
pub use Rattle.golden.specs.declared.Bracket.{Bracket}
unfoldable pub use Rattle.wire.specs.Wire.{real_of}
unfoldable pub use Rattle.bounds.specs.Bounds.{bandwidth_at, farther_pair, farther_from, greatest_distance}
pub use Rattle.input.specs.Checks.{fit_tests, trusts_fit}
unfoldable pub use Rattle.input.specs.Checks.{shape_tests, input_tests, value_tests, output_tests, lengths_fit, unusable_given, seeks_distance, nothing_between, option_tests_at}
pub use Rattle.input.specs.Conditions.{SomeNotFinite, BadTrust, UnusableGiven, NothingBetween}
pub use Rattle.plan.specs.Plan.{Acceptance, plan_of, accepted}
unfoldable pub use Rattle.plan.specs.Plan.{accept_of, resolve_initial_bandwidth, plan_at}
pub use Rattle.plan.specs.declared.Plan.{Plan}
pub use Rattle.plan.specs.declared.Plan.TheVariants.{Settled, Sought}
pub use Rattle.sweep.specs.Finish.{finish_of}
pub use Rattle.sweep.specs.Sweep.{row_after, add_values, next_location, new_sweep, after_solve, row_found, visit_at, solves_after, ending_at, solves_of, ending_of, sweep_of}
unfoldable pub use Rattle.sweep.specs.Sweep.{visit, fit_all_locations}
pub use Rattle.sweep.specs.declared.Sweep.{Sweep}
pub use Rattle.sweep.specs.declared.Swept.{Swept}
pub use Rattle.search.specs.Literal.{Variables, before_loop}
unfoldable pub use Rattle.search.specs.Literal.{loop_body, loop_for, golden_section_min}
pub use Rattle.search.specs.Search.{scored_of, round_with, optimum_of}
unfoldable pub use Rattle.search.specs.Search.{optimize_bandwidth, round_of, opened_of, golden_of}
pub use Rattle.search.specs.Trial.{trial_from}
unfoldable pub use Rattle.search.specs.Trial.{trial_of}
pub use Rattle.search.specs.declared.Optimum.{Optimum}
pub use Rattle.search.specs.declared.Search.{Search}
pub use Rattle.search.specs.declared.Trial.{Trial}
pub use Rattle.gwr.specs.Fit.{fit_from, fitted, answered, planned, rows_written}
unfoldable pub use Rattle.gwr.specs.Fit.{final_of, gwr_fit, sought_of}
pub use Rattle.gwr.specs.declared.Fit.{Fit}
pub use Rattle.stepping.specs.Sound.{OfKind, TrialsAt, Sound}
pub use Rattle.stepping.specs.Step.{is_over, is_ended, is_final, solve_of, fresh_job, by_stage, is_last_round, close_at, solved_job, after_outcome}
unfoldable pub use Rattle.stepping.specs.Step.{step_job, step_out, step_of, close_job, pass_job}
pub use Rattle.stepping.specs.declared.Job.{Job}
pub use Rattle.stepping.specs.declared.Stage.{Stage}
pub use Rattle.stepping.specs.declared.Stage.TheVariants.{First, Second, Round, Final, Ended}
pub use Rattle.starting.specs.Begin.{start_job, begun_with}
unfoldable pub use Rattle.starting.specs.Begin.{begin_of}
unfoldable pub use Rattle.fitness.specs.Fitness.{sizes_fit, is_fit, kinds_fit}
unfoldable pub use Rattle.job.specs.Run.{steps, run}
pub use Rattle.job.specs.Turn.{answer_at, ran_of, refused_turn}
unfoldable pub use Rattle.job.specs.Turn.{lent_tests, turn_tests, run_of, turn_of}
pub use Rattle.job.specs.declared.Answer.{Answer}
pub use Rattle.job.specs.declared.Turned.{Turned}
pub use Rattle.request.specs.Options.{named_kernel, named, is_unknown}
unfoldable pub use Rattle.request.specs.Options.{kernel_of, options_of}
pub use Rattle.weighing.specs.Weighing.{refused_weight, given_weight, distance_tests}
unfoldable pub use Rattle.weighing.specs.Weighing.{weight_tests, weight_bytes}
pub use Rattle.calls.specs.Calls.{AfterCall, numbers_of, answer_bytes, fitted_bytes, numbers_fit}
unfoldable pub use Rattle.calls.specs.Calls.{call_tests, placed_rows, fit_bytes}
pub use Rattle.header.specs.Headers.{head_of}
pub use Rattle.listing.specs.Jobs.{refused_text}
pub use Rattle.listing.specs.Numbers.{data_in, options_in, text_of_fit}
unfoldable pub use Rattle.listing.specs.Numbers.{print_tests}
unfoldable pub use Rattle.listing.specs.Printed.{printed}
