-- Numbers as 8 bytes, lowest first, and reals by their bits. Definitions only.
use Rattle.std.specs.Prelude.{ℕ, zero, suc, ◌+◌, ◌*◌, ◌/◌, ◌%◌, cond, List, [], ◌∷◌, ◌++◌, length, take, drop, Float}
use Rattle.std.specs.Float.{binary64}
use Rattle.std.specs.Float.Ieee.{is_nan, of_bits, to_bits}

-- the bits of a real; every NaN has those of 7FF8000000000000
unfoldable pub bits_of : Float → ℕ
unfolding is_nan to_bits
bits_of x = cond (is_nan x) 0x7FF8_0000_0000_0000 (to_bits binary64 x)

-- the real of a bit pattern
unfoldable pub real_of : ℕ → Float
unfolding of_bits
real_of b = of_bits binary64 b

-- the n lowest bytes of v, lowest first
unfoldable pub low_bytes : ℕ → ℕ → List ℕ
low_bytes zero v = []
low_bytes (suc n) v = v % 256 ∷ low_bytes n (v / 256)

-- v as 8 bytes, lowest first
unfoldable pub bytes_of : ℕ → List ℕ
unfolding low_bytes
bytes_of v = low_bytes 8 v

-- the number whose bytes these are, lowest first
unfoldable pub number_of : List ℕ → ℕ
number_of [] = 0
number_of (b ∷ bs) = b + 256 * number_of bs

-- the number of the 8 bytes from `at` on
unfoldable pub load_of : List ℕ → ℕ → ℕ
unfolding number_of
load_of s at = number_of (take 8 (drop at s))

-- d with the row over it from `at` on
unfoldable pub placed : {A : Type 0} → List A → ℕ → List A → List A
placed d at row = take at d ++ (row ++ drop (at + length row) d)

-- the first n numbers of s, 8 bytes each, as reals
unfoldable pub reals : List ℕ → ℕ → List Float
unfolding real_of load_of
reals s zero = []
reals s (suc n) = reals s n ++ (real_of (load_of s (8 * n)) ∷ [])

-- the reals' bits, 8 bytes each
unfoldable pub real_bytes : List Float → List ℕ
unfolding bytes_of bits_of
real_bytes [] = []
real_bytes (x ∷ xs) = bytes_of (bits_of x) ++ real_bytes xs
