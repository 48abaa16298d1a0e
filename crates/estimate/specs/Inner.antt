-- Inner products, whose sums are taken in order. Definitions only.
use Rattle.std.specs.Prelude.{Float}
use Rattle.std.specs.List.{fold, zip}
use Rattle.std.specs.Float.{binary64}
use Rattle.std.specs.Float.Ieee.{add, mul}
use Rattle.real.specs.Matrix.{Row}

-- `sum += a * b`
abbrev pub plus_product : Float → Float × Float → Float
plus_product sum c = add binary64 sum (mul binary64 c.0 c.1)

-- start, and each cell of u times that of v added to it in turn
unfoldable pub product_sum : Float → Row → Row → Float
product_sum start u v = fold plus_product start (zip u v)
