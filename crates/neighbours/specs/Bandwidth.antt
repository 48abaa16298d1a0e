-- The bandwidth of a location. Definitions only.
use Rattle.std.specs.Prelude.{ℕ, List, Float}
use Rattle.setup.specs.declared.GwrBandwidth.{GwrBandwidth}
use Rattle.setup.specs.declared.GwrBandwidth.TheVariants.{Fixed, AdaptiveKnn}
use Rattle.neighbours.specs.Walk.{nearest_of}

-- 000's `local_bandwidth_distance`: the distance itself, or the k-th smallest distance to the others of n pantries
abbrev pub local_bandwidth_distance : List Float → ℕ → ℕ → GwrBandwidth → Float
local_bandwidth_distance coords n i (Fixed b) = b
local_bandwidth_distance coords n i (AdaptiveKnn k) = nearest_of coords n i k
