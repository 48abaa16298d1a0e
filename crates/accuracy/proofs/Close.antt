-- Two numbers at most so far apart, and laws of that. Assumes nothing.
use Prim.Native.Nat.{ℕ, ◌+◌, ◌*◌, ◌≤◌, ◌<◌}
use native.Mathlib.Nat.{mul-le-mul_right, le_of_mul-le-mul_right}
use native.Mathlib.Omega.{arith}

-- a and b are at most e apart
pub record Within (e a b : ℕ) : Type 0 where
  pub over : a ≤ b + e
  pub under : b ≤ a + e

pub times : {e a b : ℕ} (k : ℕ) → Within e a b → Within (e * k) (a * k) (b * k)
times k h = omega (arith, mul-le-mul_right k h.over, mul-le-mul_right k h.under)

pub cancel : {e a b k : ℕ} → 0 < k → Within (e * k) (a * k) (b * k) → Within e a b
cancel {e} {a} {b} {k} kk h =
    let f : a * k ≤ (b + e) * k = omega arith in
    let g : b * k ≤ (a + e) * k = omega arith in
    record { over = le_of_mul-le-mul_right f kk; under = le_of_mul-le-mul_right g kk }
