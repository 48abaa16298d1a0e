-- The inverse of a local fit's matrix, as 000's `invert_matrix` gives it, and whether it is finite. Definitions only.
use Rattle.std.specs.Prelude.{ℕ, ◌+◌, ◌*◌, Bool, true, ◌&&◌, Option, Result, [], get_or, Float}
use Rattle.std.specs.Float.{nan, binary64}
use Rattle.std.specs.Float.Ieee.{add, mul}
use Rattle.std.specs.Float.Ieee.Scale.{finite}
use Rattle.real.specs.Fold.{range}
use Rattle.real.specs.Reals.{zero64}
use Rattle.real.specs.Matrix.{Row, Matrix}
use Rattle.normal.specs.Augmented.{augmented_matrix}
use Rattle.gauss.specs.Gauss.{elimination, eliminated}

-- the elimination of `invert_matrix(&a)`, of m rows: [A | I] eliminated, or as far as that came where a is singular
unfoldable pub inversion : Matrix → ℕ → Result Matrix Matrix
inversion a m = elimination (augmented_matrix a m) m (2 * m)

-- `invert_matrix(&a)` up to its last check, of m rows: the eliminated [A | I], none where a is singular
unfoldable pub invert_matrix : Matrix → ℕ → Option Matrix
invert_matrix a m = eliminated (augmented_matrix a m) m (2 * m)

-- `inverse[[p, q]] = aug[[p, n + q]]`: the inverse is the right half of the eliminated matrix of m rows
unfoldable pub inverse_cell : Matrix → ℕ → ℕ → ℕ → Float
inverse_cell a m p q = get_or (get_or a p []) (m + q) nan

-- `acc += a_inv[[p, q]] * v[q]`
unfoldable pub inverse_step : Matrix → ℕ → ℕ → Row → ℕ → Float → Float
inverse_step a m p v q acc = add binary64 acc (mul binary64 (inverse_cell a m p q) (get_or v q nan))

-- the same `for q in 0..n_params`: row p of the inverse times v
unfoldable pub inverse_times : Matrix → ℕ → ℕ → Row → Float
inverse_times a m p v = range (inverse_step a m p v) 0 m zero64

-- whether f holds of q too
unfoldable pub all_step : (ℕ → Bool) → ℕ → Bool → Bool
all_step f q good = good && f q

-- whether f holds of 0 to m - 1
unfoldable pub all_below : (ℕ → Bool) → ℕ → Bool
all_below f m = range (all_step f) 0 m true

-- whether row p of the inverse is finite
unfoldable pub inverse_row_finite : Matrix → ℕ → ℕ → Bool
inverse_row_finite a m p = all_below (λ q. finite (inverse_cell a m p q)) m

-- not `inverse.iter().any(|v| !v.is_finite())`
unfoldable pub inverse_finite : Matrix → ℕ → Bool
inverse_finite a m = all_below (inverse_row_finite a m) m
