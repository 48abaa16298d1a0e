-- For each K from 0 to 1021: the two parts of K ln 2 in units, the ends of the v with this K, and 2^-K. What is tested, and what it says.
use mathlib.Core.Path.{refl}
use Prim.Native.Nat.{ℕ, ◌+◌, ◌*◌, ◌/◌, ◌^◌, ◌≤◌}
use mathlib.Core.List.{List, [], ◌∷◌}
use mathlib.Core.Bool.{Bool, true, false}
use lib.Dec.{T, leb, eqb, eqb→eq, lit≤}
use lib.Ieee.{Float, nan, inf, fin, up, down}
use lib.Ieee.Exact.{HasValue}
use lib.Ieee.Scale.{finite}
use lib.Ieee.Positive.{num, den}
use Rattle.real.proofs.SignedOrder.{N, sgn}
use Rattle.exponent_table.specs.Reduction.{two_to_minus}
use Rattle.exponent_table.proofs.Tests.{All}
use Rattle.exponent_table.proofs.Table.{vl, vh, k_hi, k_lo}
use Rattle.accuracy.proofs.Nested.{U, E, XL, CL}

-- x is n / d, not below zero
abbrev valued : Float → ℕ → ℕ → Bool
valued nan n d = false
valued (inf s) n d = false
valued (fin true m e) n d = false
valued (fin false m e) n d = eqb (m * up e * d) (n * down e)

value : (x : Float) (n d : ℕ) → T (valued x n d) → HasValue x false n d
value nan n d t = absurd t
value (inf s) n d t = absurd t
value (fin true m e) n d t = absurd t
value (fin false m e) n d t = (refl, eqb→eq (m * up e * d) (n * down e) t)

-- K times the high and the low part of ln 2, in units
abbrev pub hi_units : ℕ → ℕ
hi_units k = num (k_hi k) * U / den (k_hi k)

abbrev pub lo_units : ℕ → ℕ
lo_units k = num (k_lo k) * U / den (k_lo k)

-- how far x lies below zero, over its own denominator
abbrev pub depth : Float → ℕ
depth x = N (sgn x) (num x)

pub record Row (k : ℕ) : Type 0 where
  pub high : HasValue (k_hi k) false (hi_units k) U
  pub low : HasValue (k_lo k) false (lo_units k) U
  pub both : (2 * ((hi_units k + lo_units k) * CL) ≤ 2 * (k * XL * U) + E * CL) × (2 * (k * XL * U) ≤ 2 * ((hi_units k + lo_units k) * CL) + E * CL)
  pub low_small : lo_units k * 100 ≤ U
  pub ends_finite : T (finite (vl k)) × T (finite (vh k))
  pub first : depth (vl k) * (CL * 100) ≤ (k * XL * 100 + 36 * CL) * den (vl k)
  pub last : k * XL * 100 * den (vh k) ≤ (depth (vh k) * 100 + 36 * den (vh k)) * CL
  pub power : HasValue (two_to_minus k) false 1 (2 ^ k)

abbrev pub tests : ℕ → List Bool
tests k =
    valued (k_hi k) (hi_units k) U ∷ valued (k_lo k) (lo_units k) U
    ∷ leb (2 * ((hi_units k + lo_units k) * CL)) (2 * (k * XL * U) + E * CL) ∷ leb (2 * (k * XL * U)) (2 * ((hi_units k + lo_units k) * CL) + E * CL) ∷ leb (lo_units k * 100) U
    ∷ leb (depth (vl k) * (CL * 100)) ((k * XL * 100 + 36 * CL) * den (vl k)) ∷ leb (k * XL * 100 * den (vh k)) ((depth (vh k) * 100 + 36 * den (vh k)) * CL)
    ∷ valued (two_to_minus k) 1 (2 ^ k) ∷ finite (vl k) ∷ finite (vh k) ∷ []

pub row : (k : ℕ) → All (tests k) → Row k
row k t = record {
  high = value (k_hi k) (hi_units k) U t.0;
  low = value (k_lo k) (lo_units k) U t.1.0;
  both = (lit≤ t.1.1.0, lit≤ t.1.1.1.0);
  low_small = lit≤ t.1.1.1.1.0;
  ends_finite = (t.1.1.1.1.1.1.1.1.0, t.1.1.1.1.1.1.1.1.1.0);
  first = lit≤ t.1.1.1.1.1.0;
  last = lit≤ t.1.1.1.1.1.1.0;
  power = value (two_to_minus k) 1 (2 ^ k) t.1.1.1.1.1.1.1.0;
}
