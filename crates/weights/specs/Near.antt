-- Inside `weights`: what its loops read of the setup and the data, and distances and kernel weights made before the weights. Nothing above rests on it. Definitions only.
use Rattle.std.specs.Prelude.{ℕ, ◌+◌, ◌*◌, ◌<◌, ◌≡◌, List, get_or, Float}
use Rattle.std.specs.Float.{nan, binary64}
use Rattle.std.specs.Float.Ieee.{mul}
use Rattle.real.specs.Fold.{range}
use Rattle.real.specs.Reals.{zero64}
use Rattle.kernel.specs.declared.GwrKernel.{GwrKernel}
use Rattle.kernel.specs.Weight.{weight_of, distance_of}
use Rattle.weights.specs.Weights.{weigh_step}

-- the distance of observation j from the place (east, north)
abbrev pub near_distance : List Float → Float → Float → ℕ → Float
near_distance coords east north j = distance_of east north (get_or coords (2 * j) nan) (get_or coords (2 * j + 1) nan)

-- the weight of observation j with its trust
abbrev pub near_weight : GwrKernel → List Float → List Float → Float → Float → Float → ℕ → Float
near_weight k coords trust east north b j = mul binary64 (weight_of k (near_distance coords east north j) b) (get_or trust j nan)

-- the weights of n observations, from w on, and their sum
abbrev pub near_weights : GwrKernel → List Float → List Float → ℕ → Float → Float → Float → List Float → List Float × Float
near_weights k coords trust n east north b w = range (weigh_step (near_weight k coords trust east north b)) 0 n (w, zero64)

-- the kernel's weight at the j-th of the distances d
abbrev pub kernel_over : GwrKernel → Float → List Float → ℕ → Float
kernel_over k b d j = weight_of k (get_or d j nan) b

-- the weight of observation j, whose kernel weight is in v, with its trust
abbrev pub trusted_over : List Float → List Float → ℕ → Float
trusted_over v trust j = mul binary64 (get_or v j nan) (get_or trust j nan)

-- y holds f of each of the first n observations
pub record Filled (f : ℕ → Float) (n : ℕ) (y : List Float) : Type 0 where
  pub at : (j : ℕ) → j < n → get_or y j nan ≡ f j
