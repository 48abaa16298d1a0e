-- Design rows, as 000's `build_design_matrix` makes them. Definitions only.
use Rattle.std.specs.Prelude.{ℕ, ◌+◌, ◌*◌, List, length, take, drop, get_or, set, replicate, Float}
use Rattle.std.specs.Float.{nan}
use Rattle.real.specs.Matrix.{Row}
use Rattle.real.specs.Fold.{range}
use Rattle.real.specs.Reals.{zero64, one64}

-- the p predictors of observation j
abbrev pub predictors_of : List Float → ℕ → ℕ → List Float
predictors_of x p j = take p (drop (j * p) x)

-- cell q + 1 of observation j's design row is its predictor q
unfoldable pub design_step : List Float → ℕ → ℕ → ℕ → Row → Row
design_step x p j q row = set row (q + 1) (get_or x (j * p + q) nan)

-- row j of `build_design_matrix`: 1, and the p predictors of observation j; the other cells of 8 are zero
unfoldable pub design_row : List Float → ℕ → ℕ → Row
design_row x p j = range (design_step x p j) 0 p (set (replicate 8 zero64) 0 one64)

-- the design row of an observation with these predictors
abbrev pub design_of : List Float → Row
design_of own = design_row own (length own) 0
