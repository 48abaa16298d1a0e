-- Units, the number beside ln 2, and the exact value of the steps of exp at a fraction. Definitions only.
use Prim.Native.Nat.{ℕ, zero, suc, ◌+◌, ◌-◌, ◌*◌, ◌^◌, ◌≤◌}
use mathlib.Core.Bool.{Bool, true, false}
use Rattle.accuracy.proofs.Close.{Within}

-- a unit is 2^-1074: U of them are 1, and E of them 2^-53
abbrev pub U : ℕ
U = 2 ^ 1074

abbrev pub E : ℕ
E = 2 ^ 1021

-- XL / CL is ln 2 cut after 100 binary digits
abbrev pub XL : ℕ
XL = 0xb17217f7d1cf79abc9e3b3980

abbrev pub CL : ℕ
CL = 2 ^ 100

-- the steps for j down to 1 at (p - q) / c, from (a - b) / d: the denominator, and the two parts of the numerator
unfoldable pub nested_over : ℕ → ℕ → ℕ → ℕ
nested_over c zero d = d
nested_over c (suc j) d = nested_over c j (c * suc j * d)

unfoldable pub nested : ℕ → ℕ → ℕ → ℕ → ℕ → ℕ → ℕ → Bool → ℕ
nested c p q zero a b d false = a
nested c p q zero a b d true = b
nested c p q (suc j) a b d s = nested c p q j (c * suc j * d + (p * a + q * b)) (p * b + q * a) (c * suc j * d) s

-- S units lie within 12·2^-53 of (a - b) / d
abbrev pub Near : ℕ → ℕ → ℕ → ℕ → Type 0
Near S d a b = Within (12 * (E * d)) (S * d + b * U) (a * U)

-- and of the exact value of the 13 steps from 1 at (p - q) / c
abbrev pub NearSteps : ℕ → ℕ → ℕ → ℕ → Type 0
NearSteps S c p q = Near S (nested_over c 13 1) (nested c p q 13 1 0 1 false) (nested c p q 13 1 0 1 true)

-- what is known of the steps' value S for the rest (x - y) / c of an argument
pub record Reached (S c x y : ℕ) : Type 0 where
  pub small : (x - y + (y - x)) * 100 ≤ c * 36
  pub near : NearSteps S c (x - y) (y - x)
  pub half : U ≤ 2 * S
