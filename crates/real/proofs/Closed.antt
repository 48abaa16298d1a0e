-- The constants of specs/Reals as closed numbers, for proofs that compute: under `unfolding of_bits` they are the same.
use Rattle.std.proofs.Common.{false, pos, negsuc}
use lib.Ieee.{Float, fin}

abbrev pub nought : Float
nought = fin false 0 (pos 0)

abbrev pub half : Float
half = fin false 1 (negsuc 0)

abbrev pub one : Float
one = fin false 1 (pos 0)

abbrev pub two : Float
two = fin false 1 (pos 1)
