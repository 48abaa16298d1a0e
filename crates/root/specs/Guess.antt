-- A guess at a root: nothing rests on its value, since the root is settled from any. Definitions only.
use Rattle.std.specs.Prelude.{◌+◌, ◌%◌, cond, Float}
use Rattle.std.specs.Float.{binary64}
use Rattle.std.specs.Float.Ieee.{add, sub, mul, div, eq, of_bits, to_bits}

-- a polynomial near the root of s, for s from 1/2 to 2
unfoldable pub estimate_of : Float → Float
unfolding add sub mul of_bits
estimate_of s =
    let w = mul binary64 s s in
    let low = add binary64 (of_bits binary64 0x3FCF17FC23D13F09) (mul binary64 (of_bits binary64 0x3FF3B31FFEEC6D8F) s) in
    let middle = sub binary64 (mul binary64 (of_bits binary64 0x3FDBF89F05BD8436) s) (of_bits binary64 0x3FE9581841C3C011) in
    let high = sub binary64 (mul binary64 (of_bits binary64 0x3F92700894734127) s) (of_bits binary64 0x3FC190AA8A5C6D9B) in
    add binary64 low (mul binary64 w (add binary64 middle (mul binary64 w high)))

-- two steps of Newton's iteration for the root of s, from y
unfoldable pub newton_of : Float → Float → Float
unfolding add mul div of_bits
newton_of s y =
    let z = add binary64 y (div binary64 s y) in
    add binary64 (mul binary64 (of_bits binary64 0x3FD0_0000_0000_0000) z) (div binary64 s z)

-- the digits of x, those of 0 for NaN, with an exponent that makes them a number from 1/2 to 2, and the guess at its root
unfoldable pub guess_of : Float → Float
unfolding eq to_bits estimate_of newton_of of_bits
guess_of x =
    let s = of_bits binary64 (cond (eq x x) (to_bits binary64 x) 0 % 0x20_0000_0000_0000 + 0x3FE0_0000_0000_0000) in
    newton_of s (estimate_of s)
