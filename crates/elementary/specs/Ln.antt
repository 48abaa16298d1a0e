-- The natural logarithm of a positive normal number, by its steps. Definitions, and examples of them.
use Rattle.std.specs.Prelude.{◌≡◌, ℕ, zero, suc, ◌+◌, ◌*◌, ◌/◌, ◌%◌, ◌^◌, false, cond, ◌&&◌, ℤ, pos, negsuc, Float}
use Rattle.std.proofs.Math.Path.{refl}
use Rattle.std.specs.Float.{nan, fin, binary64}
use Rattle.std.specs.Float.Ieee.{add, sub, mul, div, lt, le, of_int, of_bits, to_bits, minus}
use Rattle.real.specs.Reals.{half64, one64, two64, least_normal, inf64, from_count}
use Rattle.exponent_table.specs.Reduction.{HI, LO}

abbrev pub three_halves : Float
three_halves = fin false 3 (negsuc 0)

-- v = m·2^e, m from 1 up to below 2: m has v's digits under the exponent's field 1023, which is that of 1
unfoldable pub mantissa : Float → Float
unfolding of_bits to_bits
mantissa v = of_bits binary64 (1023 * 2 ^ 52 + to_bits binary64 v % 2 ^ 52)

-- and e is v's exponent's field less 1023
unfoldable pub exponent : Float → ℤ
unfolding to_bits
exponent v = minus (to_bits binary64 v / 2 ^ 52) 1023

-- s becomes 1/j + w·s
unfoldable pub ln_step : Float → Float → ℕ → Float
unfolding add mul div of_int
ln_step w s j = add binary64 (div binary64 one64 (from_count j)) (mul binary64 w s)

-- the steps for n odd j down to 1, from s: the first j is 2n - 1
unfoldable pub ln_steps : ℕ → Float → Float → Float
unfolding ln_step
ln_steps zero w s = s
ln_steps (suc n) w s = ln_steps n w (ln_step w s (2 * n + 1))

-- s, from 1/23 by the steps for j = 21 down to 1
unfoldable pub ln_series : Float → Float
unfolding ln_steps div of_int
ln_series w = ln_steps 11 w (div binary64 one64 (from_count 23))

-- 01's z: (m - 1)/(m + 1)
abbrev pub z_of : Float → Float
z_of m = div binary64 (sub binary64 m one64) (add binary64 m one64)

-- 01's w: z·z
abbrev pub w_of : Float → Float
w_of m = mul binary64 (z_of m) (z_of m)

-- e·HI + ((2·z)·s + e·LO), s the series of w
unfoldable pub ln_split : Float → Float → Float
unfolding ln_series add sub mul div of_bits
ln_split m e = add binary64 (mul binary64 e HI) (add binary64 (mul binary64 (mul binary64 two64 (z_of m)) (ln_series (w_of m))) (mul binary64 e LO))

-- where m ≥ 1.5, m is halved and e raised by one
unfoldable pub ln_parts : Float → Float → Float
unfolding ln_split le mul add
ln_parts m e = cond (le three_halves m) (ln_split (mul binary64 m half64) (add binary64 e one64)) (ln_split m e)

-- for a positive normal v. For any other no steps are given, and the answer is NaN.
unfoldable pub lnv : Float → Float
unfolding ln_parts mantissa exponent le lt of_bits of_int
lnv v = cond (le least_normal v && lt v inf64) (ln_parts (mantissa v) (of_int binary64 (exponent v))) nan

-- ---- examples: ln(1), and the parts of 6 = 1.5·2^2 and of 2^-1022

module _ where
  ln_examples :
      (lnv (fin false 1 (pos 0)) ≡ fin false 0 (pos 0))
      × (mantissa (fin false 3 (pos 1)) ≡ three_halves)
      × (exponent (fin false 3 (pos 1)) ≡ pos 2)
      × (mantissa least_normal ≡ one64)
      × (exponent least_normal ≡ negsuc 1021)
  unfolding lnv mantissa exponent of_bits
  ln_examples = (refl, refl, refl, refl, refl)
