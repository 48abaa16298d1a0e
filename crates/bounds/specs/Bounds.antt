-- Between which bandwidths a search goes: 000's `fixed_bandwidth_bounds`, and the counts. Definitions only.
use Rattle.std.specs.Prelude.{ℕ, ◌+◌, ◌*◌, ◌-◌, max, Bool, ◌&&◌, List, get_or, Float}
use Rattle.std.specs.Float.{nan, binary64}
use Rattle.std.specs.Float.Ieee.{mul, div, lt, of_bits}
use Rattle.std.specs.Float.Ieee.Scale.{finite}
use Rattle.real.specs.Fold.{range}
use Rattle.real.specs.Reals.{greater, lesser, round_into, zero64, from_count}
use Rattle.kernel.specs.Weight.{distance_of}
use Rattle.setup.specs.declared.GwrBandwidth.{GwrBandwidth}
use Rattle.setup.specs.declared.GwrBandwidth.TheVariants.{Fixed, AdaptiveKnn}
use Rattle.setup.specs.declared.Setup.{Setup}

-- ---- a searched distance

-- 000's `max_d = max_d.max(distances[[i, j]])`
unfoldable pub farther_pair : List Float → ℕ → ℕ → Float → Float
farther_pair coords i j most =
    greater most (distance_of (get_or coords (2 * i) nan) (get_or coords (2 * i + 1) nan) (get_or coords (2 * j) nan) (get_or coords (2 * j + 1) nan))

-- 000's `for j in (i + 1)..n`
unfoldable pub farther_from : List Float → ℕ → ℕ → Float → Float
farther_from coords n i most = range (farther_pair coords i) (i + 1) n most

-- 000's `max_d`, 01's hi: the greatest pair distance, 0 where there is no pair
unfoldable pub greatest_distance : List Float → ℕ → Float
greatest_distance coords n = range (farther_from coords n) 0 n zero64

-- 01's lo: the larger of hi/n and hi·1e-3, but not above hi
unfoldable pub least_distance : Float → ℕ → Float
least_distance hi n = lesser (greater (div binary64 hi (from_count n)) (mul binary64 hi (of_bits binary64 0x3F50_624D_D2F1_A9FC))) hi

-- what neither 11 nor 12 refuses: a distance that is finite and above 0
unfoldable pub usable_distance : Float → Bool
usable_distance b = finite b && lt zero64 b

-- ---- a searched count

-- 01's L = max(p + 1, 2)
abbrev pub least_count : ℕ → ℕ
least_count p = max (p + 1) 2

-- 01's H = max(n - 1, L)
abbrev pub greatest_count : ℕ → ℕ → ℕ
greatest_count n p = max (n - 1) (least_count p)

-- ---- a point of the search

-- a distance, or a count, rounded, halves away from zero, then brought into least..greatest
unfoldable pub point_of : GwrBandwidth → Float → ℕ → ℕ → GwrBandwidth
point_of (Fixed b) point least greatest = Fixed point
point_of (AdaptiveKnn k) point least greatest = AdaptiveKnn (round_into point least greatest)

-- 01: the bandwidth at a point is of the options' kind, a count in L..H
unfoldable pub bandwidth_at : Setup → Float → GwrBandwidth
unfolding point_of
bandwidth_at u point = point_of u.options.bandwidth point (least_count u.p) (greatest_count u.n u.p)
