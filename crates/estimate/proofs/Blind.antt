-- The coefficients, and what a refusal leaves, see a trust through the weights alone.
use mathlib.Core.Path.{◌≡◌, refl}
use mathlib.Core.List.{List}
use lib.Ieee.{Float}
use Rattle.setup.specs.declared.Setup.{Setup}
use Rattle.setup.specs.Data.{Data, data_of, trusted_data}
use Rattle.real.specs.Matrix.{Row}
use Rattle.normal.specs.Equations.{normal_step, equations_of}
use Rattle.estimate.specs.Estimate.{eliminated_of, coefficients_under, fit_coefficients, elimination_of, left_by}

pub fit_asks_no_trust : (u : Setup) (d : Data) (w : Row) (sum : Float) → fit_coefficients u d w sum ≡ fit_coefficients u (data_of d.coords d.predictors d.responses) w sum
unfolding fit_coefficients coefficients_under eliminated_of equations_of normal_step
fit_asks_no_trust u d w sum = refl

pub fit_blind : (u : Setup) (coords x y trust : List Float) (w : Row) (sum : Float) → fit_coefficients u (trusted_data coords x y trust) w sum ≡ fit_coefficients u (data_of coords x y) w sum
fit_blind u coords x y trust = fit_asks_no_trust u (trusted_data coords x y trust)

pub left_blind : (u : Setup) (coords x y trust : List Float) (w : Row) (sum : Float) → left_by u (trusted_data coords x y trust) w sum ≡ left_by u (data_of coords x y) w sum
unfolding left_by elimination_of equations_of normal_step
left_blind u coords x y trust w sum = refl
