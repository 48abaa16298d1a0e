-- What is said of a location sees a trust through the weights alone.
use mathlib.Core.Path.{◌≡◌, refl}
use mathlib.Core.List.{List}
use Prim.Native.Nat.{ℕ}
use lib.Ieee.{Float}
use Rattle.setup.specs.declared.Setup.{Setup}
use Rattle.setup.specs.Data.{Data, data_of, trusted_data}
use Rattle.real.specs.Matrix.{Row, Matrix}
use Rattle.evaluate.specs.Evaluate.{squares_step, sum_squares, local_r_squared, values_at}

pub values_ask_no_trust : (u : Setup) (d : Data) (w : Row) (i : ℕ) (a : Matrix) (beta : Row) (sum : Float)
    → values_at u d w i a beta sum ≡ values_at u (data_of d.coords d.predictors d.responses) w i a beta sum
unfolding values_at local_r_squared sum_squares squares_step
values_ask_no_trust u d w i a beta sum = refl

pub values_blind : (u : Setup) (coords x y trust : List Float) (w : Row) (i : ℕ) (a : Matrix) (beta : Row) (sum : Float)
    → values_at u (trusted_data coords x y trust) w i a beta sum ≡ values_at u (data_of coords x y) w i a beta sum
values_blind u coords x y trust = values_ask_no_trust u (trusted_data coords x y trust)
