-- The augmented matrix [A | I], with which 000's `invert_matrix` starts. Definitions, and an example at the end.
use Rattle.std.specs.Prelude.{ℕ, ◌+◌, ◌≡◌, cond, [], ◌∷◌, get_or, set, replicate, ltb, Float}
use Rattle.std.proofs.Math.Path.{refl}
use Rattle.std.specs.Float.{nan}
use Rattle.real.specs.Fold.{range}
use Rattle.real.specs.Reals.{zero64, one64}
use Rattle.real.specs.Matrix.{Row, Matrix}

-- `a[[q, p]] = a[[p, q]]` for q above p: the cell of the symmetric matrix of which a is the upper triangle
unfoldable pub mirrored_cell : Matrix → ℕ → ℕ → Float
mirrored_cell a p q = cond (ltb q p) (get_or (get_or a q []) p nan) (get_or (get_or a p []) q nan)

-- `aug[[p, q]] = matrix[[p, q]]`
unfoldable pub mirror_step : Matrix → ℕ → ℕ → Row → Row
mirror_step a p q row = set row q (mirrored_cell a p q)

-- row p of [A | I]: `for q in 0..n`, and `aug[[p, n + p]] = 1.0`, m being the number of rows
unfoldable pub augmented_row : Matrix → ℕ → ℕ → Row
augmented_row a m p = set (range (mirror_step a p) 0 m (replicate 16 zero64)) (m + p) one64

-- row p of [A | I] in its place
unfoldable pub augment_step : Matrix → ℕ → ℕ → Matrix → Matrix
augment_step a m p r = set r p (augmented_row a m p)

-- the augmented matrix [A | I] of m rows; the other cells of 8 rows of 16 are zero
unfoldable pub augmented_matrix : Matrix → ℕ → Matrix
augmented_matrix a m = range (augment_step a m) 0 m (replicate 8 (replicate 16 zero64))

-- ---- example

module _ where
  -- below the diagonal stands what is above it
  below : mirrored_cell ((zero64 ∷ (one64 ∷ [])) ∷ ((nan ∷ (zero64 ∷ [])) ∷ [])) 1 0 ≡ one64
  unfolding mirrored_cell
  below = refl
