-- What the parts of the code ensure: inside `root` alone. Definitions only.
use Rattle.std.specs.Prelude.{ℕ, ◌+◌, ◌*◌, ◌/◌, ◌^◌, ◌%◌, ◌-◌, ◌≤◌, ◌<◌, ◌≡◌, cond, eqb}

-- q and r are the whole root of m and what is left of m
pub record Rooted (m q r : ℕ) : Type 0 where
  pub exact : q * q + r ≡ m
  pub small : r ≤ q + q

-- a and h are the leading digits of a number of len digits, 53 or 54 of them, and half its length, as `root_units` has them: v is that number times 2 ^ 106
pub record Parted (v len a h : ℕ) : Type 0 where
  pub half : h ≡ (len + 1) / 2
  pub value : v ≡ a * 2 ^ 52 * 4 ^ h
  pub low : 2 ^ 52 ≤ a
  pub high : a < 2 ^ 54 - 1
  pub short : h ≤ 1049

-- the units of the bit pattern of a positive finite binary64
unfoldable pub units_of_bits : ℕ → ℕ
units_of_bits b = cond (eqb (b / 2 ^ 52) 0) b ((2 ^ 52 + b % 2 ^ 52) * 2 ^ (b / 2 ^ 52 - 1))
