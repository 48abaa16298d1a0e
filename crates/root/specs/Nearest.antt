-- IEEE 754, squareRoot, round to nearest: a root that every other binary64 lies farther from than this one. Definitions only.
use Rattle.std.specs.Prelude.{Bool, true, false, T, Float}
use Rattle.std.specs.Float.{nan, inf, fin, binary64}
use Rattle.std.specs.Float.Ieee.{lt, le, fits}
use Rattle.std.specs.Float.Ieee.Positive.{positive}
use Rattle.real.specs.Reals.{least_normal}
use Rattle.real.specs.Fractions.{Fraction, fraction, fraction_of, fraction_plus, fraction_times, fraction_less}

-- finite, with the sign clear
abbrev pub unsigned : Float → Bool
unsigned nan = false
unsigned (inf s) = false
unsigned (fin true m e) = false
unsigned (fin false m e) = true

-- (x + y)², which is four times the square of the middle of x and y
abbrev pub sum_squared : Float → Float → Fraction
sum_squared x y = let sum = fraction_plus (fraction_of x) (fraction_of y) in fraction_times sum sum

-- 4z, which is four times the square of the root of z
abbrev pub fourfold : Float → Fraction
fourfold z = fraction_times (fraction false 4 1) (fraction_of z)

-- r is the binary64 nearest to the root of x: a positive normal number, and the exact root of x lies nearer to r than to any other binary64 y from 0 up:
-- above the middle of r and a y below r, and below the middle of r and a y above r. A y below 0 lies farther away than 0 does.
pub record NearestRoot (x r : Float) : Type 0 where
  pub held : T (fits binary64 r)
  pub is_positive : T (positive r)
  pub is_normal : T (le least_normal r)
  pub below : (y : Float) → T (fits binary64 y) → T (unsigned y) → T (lt y r) → T (fraction_less (sum_squared r y) (fourfold x))
  pub above : (y : Float) → T (fits binary64 y) → T (unsigned y) → T (lt r y) → T (fraction_less (fourfold x) (sum_squared r y))
