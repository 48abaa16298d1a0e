-- The first steps of exp(v): the whole number K of halvings, what is left of v, and 2^-K. Definitions only.
use Rattle.std.specs.Prelude.{ℕ, ◌-◌, ◌*◌, ◌^◌, true, pos, Float}
use Rattle.std.specs.Float.{fin, binary64}
use Rattle.std.specs.Float.Ieee.{add, mul, sub, of_bits, of_int, to_unsigned}
use Rattle.real.specs.Reals.{half64, from_count}

-- ln 2 in two parts, the first with zeros at its end, and 1 / ln 2
abbrev pub HI : Float
HI = of_bits binary64 0x3FE62E42FEE00000

abbrev pub LO : Float
LO = of_bits binary64 0x3DEA39EF35793C76

abbrev pub INV : Float
INV = of_bits binary64 0x3FF71547652B82FE

-- -708
abbrev pub floor708 : Float
floor708 = fin true 177 (pos 2)

-- K: the whole part of 0.5 - v·INV
unfoldable pub exp_k : Float → ℕ
unfolding to_unsigned sub mul of_bits
exp_k v = to_unsigned 64 (sub binary64 half64 (mul binary64 v INV))

-- r = (v + K·HI) + K·LO
unfoldable pub exp_rest : Float → ℕ → Float
unfolding add mul of_int of_bits
exp_rest v k = add binary64 (add binary64 v (mul binary64 (from_count k) HI)) (mul binary64 (from_count k) LO)

-- 2^-K, for K up to 1022, by its bits
unfoldable pub two_to_minus : ℕ → Float
unfolding of_bits
two_to_minus k = of_bits binary64 ((1023 - k) * 2 ^ 52)
