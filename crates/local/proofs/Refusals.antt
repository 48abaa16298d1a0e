-- Which refusals a local solve meets: 27, 14, 15 or 16.
use mathlib.Core.Path.{◌≡◌, refl, subst⁻¹}
use mathlib.Core.Bool.{Bool, cond}
use mathlib.Core.Logic.{◌⊎◌, inl, inr}
use Prim.Native.Nat.{ℕ}
use lib.Dec.{T}
use lib.Ieee.{Float, lt}
use lib.Ieee.Bits.{is_true}
use Rattle.real.specs.Reals.{zero64}
use Rattle.real.proofs.Cases.{either}
use Rattle.refusal.specs.declared.Refusal.{Refusal}
use Rattle.refusal.specs.declared.Refusal.TheVariants.{WeightSumNotPositive, Singular, InverseNotFinite, CoefficientNotFinite}
use Rattle.setup.specs.declared.GwrBandwidth.{GwrBandwidth}
use Rattle.setup.specs.declared.Setup.{Setup}
use Rattle.setup.specs.Data.{Data}
use Rattle.real.specs.Matrix.{Row, Matrix}
use Rattle.std.specs.Prelude.{Option, None, Some, Result, Ok, Err}
use Rattle.estimate.specs.declared.Coefficients.{Coefficients}
use Rattle.evaluate.specs.declared.Values.{Values}
use Rattle.local.specs.declared.Solved.{Solved}
use Rattle.std.specs.Prelude.{Result, Ok, Err}
use Rattle.estimate.specs.Inverse.{inverse_finite}
use Rattle.estimate.specs.Estimate.{coefficients_finite, coefficients_of, from_inverse, from_eliminated, coefficients_under, fit_coefficients}
use Rattle.neighbours.specs.Bandwidth.{local_bandwidth_distance}
use Rattle.weights.specs.Weights.{weights_at}
use Rattle.local.specs.Solve.{solved_by, solve_local, solve_location}

-- of weights that weigh something
abbrev pub AtFit : Refusal → Type 0
AtFit r = (r ≡ Singular) ⊎ ((r ≡ InverseNotFinite) ⊎ (r ≡ CoefficientNotFinite))

abbrev pub AtLocation : Refusal → Type 0
AtLocation r = (r ≡ WeightSumNotPositive) ⊎ AtFit r

-- an outcome that is found, or refused so
abbrev pub OutcomeBy : (Refusal → Type 0) → Result Solved Refusal → Type 0
OutcomeBy P (Ok s) = Unit {0}
OutcomeBy P (Err r) = P r

abbrev pub OutcomeAt : Result Solved Refusal → Type 0
OutcomeAt o = OutcomeBy AtLocation o

abbrev FitBy : (Refusal → Type 0) → Result Coefficients Refusal → Type 0
FitBy P (Ok c) = Unit {0}
FitBy P (Err r) = P r

inverse_at_lem : (a : Matrix) (rhs : Row) (m : ℕ) → FitBy AtFit (from_inverse a rhs m)
unfolding from_inverse
inverse_at_lem a rhs m = either (FitBy AtFit) (inverse_finite a m) _ _ (either (FitBy AtFit) (coefficients_finite (coefficients_of a rhs m) m) _ _ tt (inr (inr refl))) (inr (inl refl))

eliminated_at : (e : Option Matrix) (rhs : Row) (m : ℕ) → FitBy AtFit (from_eliminated e rhs m)
unfolding from_eliminated
eliminated_at None rhs m = inl refl
eliminated_at (Some a) rhs m = inverse_at_lem a rhs m

under_at : (u : Setup) (d : Data) (w : Row) → FitBy AtFit (coefficients_under u d w)
unfolding coefficients_under
under_at u d w = eliminated_at _ _ _

outcome_by : (P : Refusal → Type 0) (e : Result Coefficients Refusal) (v : Coefficients → Values) → FitBy P e → OutcomeBy P (solved_by e v)
unfolding solved_by
outcome_by P (Ok c) v h = tt
outcome_by P (Err r) v h = h

or_weightless : (e : Result Coefficients Refusal) → FitBy AtFit e → FitBy AtLocation e
or_weightless (Ok c) h = tt
or_weightless (Err r) h = inr h

fit_at : (u : Setup) (d : Data) (w : Row) (sum : Float) → FitBy AtLocation (fit_coefficients u d w sum)
unfolding fit_coefficients
fit_at u d w sum = either (FitBy AtLocation) (lt zero64 sum) _ _ (or_weightless (coefficients_under u d w) (under_at u d w)) (inl refl)

pub location_at : (u : Setup) (d : Data) (bandwidth : GwrBandwidth) (i : ℕ) → OutcomeAt (solve_location u d bandwidth i)
unfolding solve_location solve_local
location_at u d bandwidth i = outcome_by AtLocation _ _ (fit_at _ _ _ _)

-- where the weights sum to more than zero, 27 is not met
pub weighed_at : (u : Setup) (d : Data) (bandwidth : GwrBandwidth) (i : ℕ) → T (lt zero64 (weights_at u d i (local_bandwidth_distance d.coords u.n i bandwidth)).1)
    → OutcomeBy AtFit (solve_location u d bandwidth i)
unfolding solve_location solve_local fit_coefficients
weighed_at u d bandwidth i h =
    let s = weights_at u d i (local_bandwidth_distance d.coords u.n i bandwidth) in
    outcome_by AtFit _ _ (subst⁻¹ (λ (b : Bool). FitBy AtFit (cond b (coefficients_under u d s.0) (Err WeightSumNotPositive))) (is_true (lt zero64 s.1) h) (under_at u d s.0))
