-- The square root of a binary64, rounded to nearest. Definitions, and examples at the end.
use Prim.Native.Nat.{ℕ, zero, suc, ◌+◌, ◌*◌, ◌/◌, ◌^◌, compare}
use Rattle.std.specs.Prelude.{◌≡◌, false, cond, ◌&&◌, leb, Float}
use Rattle.std.proofs.Math.Path.{refl}
use Rattle.std.specs.Float.{nan, inf, fin}
use Rattle.std.specs.Float.Ieee.{binary64, up, down, lt, size, nearest, units, of_bits, to_bits}
use Rattle.real.specs.Reals.{zero64, inf64}

-- 2 * r + 1 where its square is at most n, else 2 * r: one binary digit more of the root of n
unfoldable pub root_digit : ℕ → ℕ → ℕ
root_digit n r = cond (leb ((2 * r + 1) * (2 * r + 1)) n) (2 * r + 1) (2 * r)

-- the largest number whose square is at most n, for an n below 4 ^ k, digit by digit
unfoldable pub isqrt : ℕ → ℕ → ℕ
unfolding root_digit
isqrt zero n = 0
isqrt (suc k) n = root_digit n (isqrt k (n / 4))

-- a positive finite x as a multiple of the smallest binary64, 2 ^ -1074
unfoldable pub in_units : Float → ℕ
in_units nan = 0
in_units (inf s) = 0
in_units (fin s m e) = m * up e * 2 ^ 1074 / down e

-- q or q + 1, whichever is nearer to the root of m, for the largest q whose square is at most m; the even one at a tie.
-- It is judged on squares: q + 1/2 lies above the root of m where (2q + 1) ^ 2 is above 4m.
unfoldable pub nearest_root : ℕ → ℕ
unfolding isqrt
nearest_root m = let q = isqrt 53 m in nearest q (compare (4 * m) ((2 * q + 1) * (2 * q + 1)))

-- the root of n * 2 ^ -1074, n above 0, to 53 binary digits.
-- With 2h the length of n, or one more, n * 2 ^ 106 is m * 4 ^ h with an m of 105 or 106 digits, whose root has 53.
-- The root of n * 2 ^ -1074 is that of m, times 2 ^ (h - 53 - 537), which is 2 ^ (h + 484) of the smallest binary64.
unfoldable pub root_units : ℕ → Float
unfolding nearest_root size units
root_units n = let h = (size n + 1) / 2 in units binary64 false (nearest_root (n * 2 ^ 106 / 4 ^ h)) (h + 484)

-- the square root of x: NaN of a negative number; zero of either sign, infinity and NaN are their own
unfoldable pub root : Float → Float
unfolding root_units in_units lt
root x = cond (lt x zero64) nan (cond (lt zero64 x && lt x inf64) (root_units (in_units x)) x)

-- ---- examples, by their bits

module _ where
  -- the pattern of the root of the number with the pattern b
  root_bits : ℕ → ℕ
  unfolding root to_bits
  root_bits b = to_bits binary64 (root (of_bits binary64 b))

  -- 2 = root of 4; then 2, 5, the smallest subnormal, the greatest finite number, -0 and infinity
  bits_examples :
      (root_bits 0x4010_0000_0000_0000 ≡ 0x4000_0000_0000_0000)
      × (root_bits 0x4000_0000_0000_0000 ≡ 0x3FF6_A09E_667F_3BCD)
      × (root_bits 0x4014_0000_0000_0000 ≡ 0x4001_E377_9B97_F4A8)
      × (root_bits 1 ≡ 0x1E60_0000_0000_0000)
      × (root_bits 0x7FEF_FFFF_FFFF_FFFF ≡ 0x5FEF_FFFF_FFFF_FFFF)
      × (root_bits 0x8000_0000_0000_0000 ≡ 0x8000_0000_0000_0000)
      × (root_bits 0x7FF0_0000_0000_0000 ≡ 0x7FF0_0000_0000_0000)
  unfolding root_bits of_bits
  bits_examples = (refl, refl, refl, refl, refl, refl, refl)

  negative_example : root (of_bits binary64 0xBFF0_0000_0000_0000) ≡ nan
  unfolding root of_bits
  negative_example = refl
