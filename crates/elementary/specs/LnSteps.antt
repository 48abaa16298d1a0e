-- What is asked of 01's steps for ln of a positive normal v: that v is taken apart exactly, and that each step is finite. Definitions only.
use Rattle.std.specs.Prelude.{◌≡◌, ℕ, zero, suc, ◌+◌, ◌*◌, ◌^◌, ◌<◌, ◌≤◌, false, not, T, Float}
use Rattle.std.specs.Float.{binary64}
use Rattle.std.specs.Float.Ieee.{add, sub, mul, div, le, of_int, minus}
use Rattle.std.specs.Float.Ieee.Exact.{HasValue}
use Rattle.std.specs.Float.Ieee.Scale.{finite}
use Rattle.real.specs.Reals.{zero64, half64, one64, two64, magnitude, from_count}
use Rattle.real.specs.Fractions.{fraction, nearest64}
use Rattle.exponent_table.specs.Reduction.{HI, LO}
use Rattle.elementary.specs.Ln.{three_halves, mantissa, exponent, ln_step, ln_series, z_of, w_of, ln_split, lnv}

-- 01's first step, v = m·2^e with m from 1 up to below 2, exactly: m is n / 2^52 and e is x - 1023, and v is (n / 2^52)·2^(x - 1023)
pub record SplitAs (v : Float) (n x : ℕ) : Type 0 where
  pub digits : (2 ^ 52 ≤ n) × (n < 2 ^ 53)
  pub field : (1 ≤ x) × (x ≤ 2046)
  pub mantissa_is : HasValue (mantissa v) false n (2 ^ 52)
  pub exponent_is : exponent v ≡ minus x 1023
  pub value_is : HasValue v false (n * 2 ^ x) (2 ^ 1075)

-- finite: s, and what the n steps from it work out, 1/j, w·s and the next s
abbrev pub StepsFinite : ℕ → Float → Float → Type 0
StepsFinite zero w s = T (finite s)
StepsFinite (suc n) w s = T (finite s) × T (finite (div binary64 one64 (from_count (2 * n + 1)))) × T (finite (mul binary64 w s)) × StepsFinite n w (ln_step w s (2 * n + 1))

-- 01's steps once m and e are settled: each is finite, |z| at most 1/4, w from 0 to 1/16, s from 1 to 33/32, and the answer at most 711 in size
pub record SplitFinite (m e : Float) : Type 0 where
  pub ends : T (finite (sub binary64 m one64)) × T (finite (add binary64 m one64))
  pub z : T (finite (z_of m)) × T (le (magnitude (z_of m)) (nearest64 (fraction false 1 4)))
  pub w : T (finite (w_of m)) × T (le zero64 (w_of m)) × T (le (w_of m) (nearest64 (fraction false 1 16)))
  pub steps : StepsFinite 11 (w_of m) (div binary64 one64 (from_count 23))
  pub s : T (le one64 (ln_series (w_of m))) × T (le (ln_series (w_of m)) (nearest64 (fraction false 33 32)))
  pub twice : T (finite (mul binary64 two64 (z_of m)))
  pub product : T (finite (mul binary64 (mul binary64 two64 (z_of m)) (ln_series (w_of m))))
  pub parts : T (finite (mul binary64 e HI)) × T (finite (mul binary64 e LO))
  pub inner : T (finite (add binary64 (mul binary64 (mul binary64 two64 (z_of m)) (ln_series (w_of m))) (mul binary64 e LO)))
  pub answer : T (finite (ln_split m e)) × T (le (magnitude (ln_split m e)) (from_count 711))

-- 01's steps for ln v, m from 1 to 2, and halved with e raised by one where it is 1.5 or more: each is finite, and the answer at most 711 in size
pub record LnFinite (v : Float) : Type 0 where
  pub m : T (finite (mantissa v)) × T (le one64 (mantissa v)) × T (le (mantissa v) two64)
  pub e : T (finite (of_int binary64 (exponent v)))
  pub halved : T (finite (mul binary64 (mantissa v) half64))
  pub raised : T (finite (add binary64 (of_int binary64 (exponent v)) one64))
  pub upper : T (le three_halves (mantissa v)) → SplitFinite (mul binary64 (mantissa v) half64) (add binary64 (of_int binary64 (exponent v)) one64)
  pub lower : T (not (le three_halves (mantissa v))) → SplitFinite (mantissa v) (of_int binary64 (exponent v))
  pub answer : T (finite (lnv v)) × T (le (magnitude (lnv v)) (from_count 711))
