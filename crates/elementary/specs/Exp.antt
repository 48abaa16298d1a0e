-- The exponential of a number up to 0, by its steps. Definitions, and examples of them.
use Rattle.std.specs.Prelude.{◌≡◌, ℕ, zero, suc, true, false, cond, pos, Float}
use Rattle.std.proofs.Math.Path.{refl}
use Rattle.std.specs.Float.{nan, fin, binary64}
use Rattle.std.specs.Float.Ieee.{add, mul, div, lt, le, of_int, of_bits}
use Rattle.real.specs.Reals.{zero64, one64, from_count}
use Rattle.exponent_table.specs.Reduction.{floor708, exp_k, exp_rest, two_to_minus}

-- s becomes 1 + (r·s)/j
unfoldable pub exp_step : Float → Float → ℕ → Float
unfolding add mul div of_int
exp_step r s j = add binary64 one64 (div binary64 (mul binary64 r s) (from_count j))

-- the steps for j down to 1, from s
unfoldable pub exp_steps : ℕ → Float → Float → Float
unfolding exp_step
exp_steps zero r s = s
exp_steps (suc j) r s = exp_steps j r (exp_step r s (suc j))

-- s·2^-K, with s from 13 steps that start at 1 and K and r as `Reduction` has them
unfoldable pub exp_near : Float → Float
unfolding exp_steps exp_rest exp_k mul two_to_minus
exp_near v = mul binary64 (exp_steps 13 (exp_rest v (exp_k v)) one64) (two_to_minus (exp_k v))

-- 0 below -708. Above 0, and for NaN, no steps are given, and the answer is NaN.
unfoldable pub expv : Float → Float
unfolding exp_near lt le
expv v = cond (lt v floor708) zero64 (cond (le v zero64) (exp_near v) nan)

-- ---- examples: both zeros, -709, and K at -708

module _ where
  exp_examples :
      (expv (fin false 0 (pos 0)) ≡ one64)
      × (expv (fin true 0 (pos 0)) ≡ one64)
      × (expv (fin true 709 (pos 0)) ≡ zero64)
      × (exp_k floor708 ≡ 1021)
  unfolding expv exp_k of_bits
  exp_examples = (refl, refl, refl, refl)
