-- Lists of numbers of which each meets a test. Definitions only.
use Rattle.std.specs.Prelude.{Bool, true, ◌&&◌, List, [], ◌∷◌, Float}
use Rattle.std.specs.Float.Ieee.{le}
use Rattle.std.specs.Float.Ieee.Scale.{finite}
use Rattle.real.specs.Reals.{zero64, one64}

-- `values.iter().all(f)`
unfoldable pub all_of : (Float → Bool) → List Float → Bool
all_of f [] = true
all_of f (v ∷ vs) = f v && all_of f vs

-- 000's `values.iter().any(|v| !v.is_finite())`, denied
abbrev pub all_finite : List Float → Bool
all_finite l = all_of finite l

-- 0 ≤ x ≤ 1: so is -0, and NaN is not
abbrev pub in_unit : Float → Bool
in_unit x = le zero64 x && le x one64

abbrev pub all_in_unit : List Float → Bool
all_in_unit l = all_of in_unit l
