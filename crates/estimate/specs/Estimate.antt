-- The coefficients of a weighted fit at a place, from the weights of the observations seen from there. Definitions only.
use Rattle.std.specs.Prelude.{ℕ, ◌+◌, Bool, cond, Option, None, Some, Result, Ok, Err, get_or, set, replicate, Float}
use Rattle.std.specs.Float.{nan}
use Rattle.std.specs.Float.Ieee.{lt}
use Rattle.std.specs.Float.Ieee.Scale.{finite}
use Rattle.real.specs.Fold.{range}
use Rattle.real.specs.Reals.{zero64}
use Rattle.refusal.specs.declared.Refusal.{Refusal}
use Rattle.refusal.specs.declared.Refusal.TheVariants.{WeightSumNotPositive, Singular, InverseNotFinite, CoefficientNotFinite}
use Rattle.setup.specs.declared.Setup.{Setup}
use Rattle.setup.specs.Data.{Data}
use Rattle.real.specs.Matrix.{Row, Matrix}
use Rattle.normal.specs.Equations.{equations_of}
use Rattle.estimate.specs.declared.Coefficients.{Coefficients}
use Rattle.estimate.specs.Inverse.{inversion, invert_matrix, inverse_times, all_below, inverse_finite}

-- `beta[p] = acc`
unfoldable pub coefficient_step : Matrix → Row → ℕ → ℕ → Row → Row
coefficient_step a rhs m p beta = set beta p (inverse_times a m p rhs)

-- `for p in 0..n_params`: β = A⁻¹ rhs; the other cells of 8 are zero
unfoldable pub coefficients_of : Matrix → Row → ℕ → Row
coefficients_of a rhs m = range (coefficient_step a rhs m) 0 m (replicate 8 zero64)

-- not `beta.iter().any(|c| !c.is_finite())`
unfoldable pub coefficients_finite : Row → ℕ → Bool
coefficients_finite beta m = all_below (λ q. finite (get_or beta q nan)) m

-- coefficients that were found, beside the matrix that they are of
abbrev pub beside : Result Row Refusal → Matrix → Result Coefficients Refusal
beside (Ok beta) a = Ok (record { beta = beta; inverse = a })
beside (Err r) a = Err r

-- the end of `invert_matrix` and β: first 15 where the inverse is not finite, then 16 where a coefficient is not
unfoldable pub from_inverse : Matrix → Row → ℕ → Result Coefficients Refusal
from_inverse a rhs m =
    cond (inverse_finite a m)
    (cond (coefficients_finite (coefficients_of a rhs m) m)
    (Ok (record { beta = coefficients_of a rhs m; inverse = a }))
    (Err CoefficientNotFinite))
    (Err InverseNotFinite)

-- the eliminated matrix of the normal equations under the weights w, with its inverse; none where it is singular
unfoldable pub eliminated_of : Setup → Data → Row → Option Matrix
eliminated_of u d w = invert_matrix (equations_of u d w).a (u.p + 1)

-- the coefficients by the eliminated matrix, 14 where there is none
unfoldable pub from_eliminated : Option Matrix → Row → ℕ → Result Coefficients Refusal
from_eliminated None rhs m = Err Singular
from_eliminated (Some a) rhs m = from_inverse a rhs m

-- the coefficients under weights that weigh something, or the refusal
unfoldable pub coefficients_under : Setup → Data → Row → Result Coefficients Refusal
coefficients_under u d w = from_eliminated (eliminated_of u d w) (equations_of u d w).rhs (u.p + 1)

-- a fit at a place, under weights with this sum: first `weight_sum <= 0.0`, 02's 27, for which no matrix is eliminated. A sum that is not finite cannot be (`weight_sum` of demand 2)
unfoldable pub fit_coefficients : Setup → Data → Row → Float → Result Coefficients Refusal
fit_coefficients u d w sum = cond (lt zero64 sum) (coefficients_under u d w) (Err WeightSumNotPositive)

-- ---- the same into coefficients that are lent

-- what elimination of the normal equations under the weights w came to: whole, or as far as it came where they are singular
unfoldable pub elimination_of : Setup → Data → Row → Result Matrix Matrix
elimination_of u d w = inversion (equations_of u d w).a (u.p + 1)

-- its matrix in both cases
abbrev pub came_to : Result Matrix Matrix → Matrix
came_to (Ok a) = a
came_to (Err a) = a

-- no coefficients beside a matrix: zeros
abbrev pub none_of : Matrix → Coefficients
none_of a = record { beta = replicate 8 zero64; inverse = a }

-- what a refusal leaves in coefficients that are lent: 27 zeros, and else the matrix as far as it was eliminated
unfoldable pub left_by : Setup → Data → Row → Float → Coefficients
left_by u d w sum = cond (lt zero64 sum) (none_of (came_to (elimination_of u d w))) (none_of (replicate 8 (replicate 16 zero64)))

-- the answer of a fit into coefficients that are lent, and these: those that were found, or what the refusal leaves
abbrev pub put_into : Result Coefficients Refusal → Coefficients → Result (Unit {0}) Refusal × Coefficients
put_into (Ok c) left = (Ok tt, c)
put_into (Err r) left = (Err r, left)
