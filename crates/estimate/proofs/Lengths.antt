-- The coefficients, where they are found, are 8 numbers; those that are lent are 8 in any case.
use mathlib.Core.Path.{◌≡◌, refl, ◌∙◌}
use Prim.Native.Nat.{ℕ}
use native.Mathlib.Omega.{arith}
use lib.ListN.{length, length-set}
use lib.Ieee.{Float, lt}
use Rattle.real.specs.Reals.{zero64}
use Rattle.real.proofs.Cases.{either}
use Rattle.real.proofs.Fold.{kept}
use Rattle.setup.specs.declared.Setup.{Setup}
use Rattle.setup.specs.Data.{Data}
use Rattle.real.specs.Matrix.{Row, Matrix}
use Rattle.std.specs.Prelude.{Option, None, Some, Result, Ok, Err}
use Rattle.refusal.specs.declared.Refusal.{Refusal}
use Rattle.estimate.specs.declared.Coefficients.{Coefficients}
use Rattle.estimate.specs.Inverse.{inverse_finite}
use Rattle.estimate.specs.Estimate.{coefficients_finite, coefficient_step, coefficients_of, from_inverse, from_eliminated, coefficients_under, fit_coefficients, left_by, put_into}

-- those that were found
abbrev pub Eight : Result Coefficients Refusal → Type 0
Eight (Ok c) = length c.beta ≡ 8
Eight (Err r) = Unit {0}

pub coefficients_eight : (a : Matrix) (rhs : Row) (m : ℕ) → length (coefficients_of a rhs m) ≡ 8
unfolding coefficients_of coefficient_step
coefficients_eight a rhs m =
    kept (coefficient_step a rhs m) 0 m (λ (beta : Row). length beta ≡ 8)
    (λ k beta h e. length-set beta k _ ∙ e)
    _ (omega arith) refl

from_eight : (a : Matrix) (rhs : Row) (m : ℕ) → Eight (from_inverse a rhs m)
unfolding from_inverse
from_eight a rhs m =
    either Eight (inverse_finite a m) _ _
    (either Eight (coefficients_finite (coefficients_of a rhs m) m) _ _ (coefficients_eight a rhs m) tt)
    tt

under_eight : (e : Option Matrix) (rhs : Row) (m : ℕ) → Eight (from_eliminated e rhs m)
unfolding from_eliminated
under_eight None rhs m = tt
under_eight (Some a) rhs m = from_eight a rhs m

pub fit_eight : (u : Setup) (d : Data) (w : Row) (sum : Float) → Eight (fit_coefficients u d w sum)
unfolding coefficients_under fit_coefficients
fit_eight u d w sum = either Eight (lt zero64 sum) _ _ (under_eight _ _ _) tt

-- and those that are lent are 8 numbers in any case
left_eight : (u : Setup) (d : Data) (w : Row) (sum : Float) → length (left_by u d w sum).beta ≡ 8
unfolding left_by
left_eight u d w sum = either (λ (c : Coefficients). length c.beta ≡ 8) (lt zero64 sum) _ _ refl refl

put_by : (f : Result Coefficients Refusal) (left : Coefficients) → Eight f → length left.beta ≡ 8 → length (put_into f left).1.beta ≡ 8
put_by (Ok c) left h k = h
put_by (Err r) left h k = k

pub put_eight : (u : Setup) (d : Data) (w : Row) (sum : Float) → length (put_into (fit_coefficients u d w sum) (left_by u d w sum)).1.beta ≡ 8
put_eight u d w sum = put_by _ _ (fit_eight u d w sum) (left_eight u d w sum)
