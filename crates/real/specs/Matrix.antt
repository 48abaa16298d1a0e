-- Rows and matrices of reals. Definitions only.
use Rattle.std.specs.Prelude.{List, Float}

abbrev pub Row : Type 0
Row = List Float

-- row by row
abbrev pub Matrix : Type 0
Matrix = List Row
