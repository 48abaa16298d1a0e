-- The constants, and what the functions of this crate compute. Definitions, and examples at the end.
use Rattle.std.specs.Prelude.{◌≡◌, ℕ, ◌+◌, ◌-◌, ◌*◌, ◌/◌, ◌^◌, ◌≤◌, min, max, false, cond, pos, Float}
use Rattle.std.proofs.Math.Path.{refl}
use Rattle.std.specs.Float.{nan, inf, fin, binary64}
use Rattle.std.specs.Float.Ieee.{up, down, lt, of_bits, of_int}

-- ---- constants

abbrev pub zero64 : Float
zero64 = of_bits binary64 0

-- 1/2
abbrev pub half64 : Float
half64 = of_bits binary64 0x3FE0_0000_0000_0000

abbrev pub one64 : Float
one64 = of_bits binary64 0x3FF0_0000_0000_0000

abbrev pub two64 : Float
two64 = of_bits binary64 0x4000_0000_0000_0000

-- 01's EPS, 2^-52
abbrev pub eps64 : Float
eps64 = of_bits binary64 0x3CB0_0000_0000_0000

-- 2^-1022, 000's `f64::MIN_POSITIVE`
abbrev pub least_normal : Float
least_normal = of_bits binary64 0x0010_0000_0000_0000

-- plus infinity
abbrev pub inf64 : Float
inf64 = inf false

-- ---- functions

-- n as a real: Rust's `n as f64`
abbrev pub from_count : ℕ → Float
from_count n = of_int binary64 (pos n)

-- the size of x: its sign cleared, also of -0; Rust's `f64::abs`
unfoldable pub magnitude : Float → Float
magnitude nan = nan
magnitude (inf s) = inf false
magnitude (fin s m e) = fin false m e

-- the greater of a and b, a where they are equal: Rust's `f64::max` where neither is NaN, but for the sign of a zero
unfoldable pub greater : Float → Float → Float
greater a b = cond (lt a b) b a

-- the lesser of a and b, a where they are equal: Rust's `f64::min` where neither is NaN, but for the sign of a zero
unfoldable pub lesser : Float → Float → Float
lesser a b = cond (lt b a) b a

-- x brought into 0 to 1, NaN staying NaN: Rust's `x.clamp(0.0, 1.0)`
unfoldable pub clamp_unit : Float → Float
clamp_unit x = cond (lt x zero64) zero64 (cond (lt one64 x) one64 x)

-- n brought into lo to hi: Rust's `n.clamp(lo, hi)`
abbrev pub clamp_count : ℕ → ℕ → ℕ → ℕ
clamp_count n lo hi = max lo (min n hi)

-- Rust's `x.round() as u64`: x rounded to a whole number, halves up; 0 for NaN and below zero, and at most 2 ^ 64 - 1
unfoldable pub round_whole : Float → ℕ
round_whole nan = 0
round_whole (inf s) = cond s 0 (2 ^ 64 - 1)
round_whole (fin s m e) = cond s 0 (min ((2 * (m * up e) + down e) / (2 * down e)) (2 ^ 64 - 1))

-- Rust's `(x.round() as usize).clamp(lo, hi)`
unfoldable pub round_into : Float → ℕ → ℕ → ℕ
round_into x lo hi = clamp_count (round_whole x) lo hi

-- what a clamp ensures of its result r: it is n, and lies from lo to hi
pub record Into (lo hi n r : ℕ) : Type 0 where
  pub is : r ≡ n
  pub low : lo ≤ r
  pub high : r ≤ hi

-- ---- examples, by their bits

module _ where
  -- 2.5, the next number below it, 0.5, the next number below it, -1 and 1e300, rounded to whole numbers
  round_examples :
      (round_whole (of_bits binary64 0x4004_0000_0000_0000) ≡ 3)
      × (round_whole (of_bits binary64 0x4003_FFFF_FFFF_FFFF) ≡ 2)
      × (round_whole half64 ≡ 1)
      × (round_whole (of_bits binary64 0x3FDF_FFFF_FFFF_FFFF) ≡ 0)
      × (round_whole (of_bits binary64 0xBFF0_0000_0000_0000) ≡ 0)
      × (round_into (of_bits binary64 0x7E37_E43C_8800_759C) 1 512 ≡ 512)
  unfolding round_into round_whole of_bits
  round_examples = (refl, refl, refl, refl, refl, refl)

  -- the size of -0; -0 lies in 0 to 1
  zero_examples : let z = of_bits binary64 0x8000_0000_0000_0000 in (magnitude z ≡ zero64) × (clamp_unit z ≡ z)
  unfolding magnitude clamp_unit lt of_bits
  zero_examples = (refl, refl)
