-- A place among coordinates. Definitions only.
use Rattle.std.specs.Prelude.{ℕ, ◌+◌, ◌*◌, List, get_or, Float}
use Rattle.std.specs.Float.{nan}
use Rattle.kernel.specs.declared.place.Place.{Place}

-- 01: coordinates are easting, then northing, of each
abbrev pub place_at : List Float → ℕ → Place
place_at coords j = record { east = get_or coords (2 * j) nan; north = get_or coords (2 * j + 1) nan }
