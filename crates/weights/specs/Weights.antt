-- The weights of the observations, seen from a place: the first loop of 000's `solve_local`. Definitions only.
use Rattle.std.specs.Prelude.{ℕ, ◌+◌, ◌*◌, List, get_or, set, replicate, Float}
use Rattle.std.specs.Float.{nan, binary64}
use Rattle.std.specs.Float.Ieee.{add, mul}
use Rattle.real.specs.Fold.{range}
use Rattle.real.specs.Reals.{zero64}
use Rattle.kernel.specs.Weight.{weight_of, distance_of}
use Rattle.setup.specs.declared.Setup.{Setup}
use Rattle.setup.specs.Data.{Trusts, Data}
use Rattle.setup.specs.Data.Trusts.{unasked, each}

-- 02: kernel weight times trust, of observation j whose kernel weight is v. Where no trust is asked for it is the kernel weight, as in 000
abbrev pub trusted_weight : Trusts → ℕ → Float → Float
trusted_weight unasked j v = v
trusted_weight (each t) j v = mul binary64 v (get_or t j nan)

-- `kernel.weight(d, bandwidth)` of observation j, d its distance from the place (east, north), b the bandwidth, times its trust. No weight is made elsewhere
unfoldable pub weight_from : Setup → Data → Float → Float → Float → ℕ → Float
weight_from u d east north b j =
    trusted_weight d.trusts j (weight_of u.options.kernel (distance_of east north (get_or d.coords (2 * j) nan) (get_or d.coords (2 * j + 1) nan)) b)

-- `*w = kw; weight_sum += kw;` for observation j, whose weight is v j
unfoldable pub weigh_step : (ℕ → Float) → ℕ → List Float × Float → List Float × Float
weigh_step v j s = (set s.0 j (v j), add binary64 s.1 (v j))

-- `weights` and `weight_sum` seen from a place; numbers past observation n - 1 are zero
unfoldable pub weights_from : Setup → Data → Float → Float → Float → List Float × Float
weights_from u d east north b = range (weigh_step (weight_from u d east north b)) 0 u.n (replicate 512 zero64, zero64)

-- seen from location i
abbrev pub weights_at : Setup → Data → ℕ → Float → List Float × Float
weights_at u d i b = weights_from u d (get_or d.coords (2 * i) nan) (get_or d.coords (2 * i + 1) nan) b
