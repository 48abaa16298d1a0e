-- Our exp in numbers, for v from -708 to 0: the rest of v is small, the steps at it are near the exact ones, and the last product is exact.
use mathlib.Core.Path.{◌≡◌, refl, subst}
use Prim.Native.Nat.{ℕ, zero, suc, ◌+◌, ◌-◌, ◌*◌, ◌^◌, ◌≤◌, ◌<◌}
use native.Mathlib.Nat.{lt_of_le_of_lt, mul-pos, mul_comm}
use mathlib.Core.Bool.{Bool, false}
use lib.IntN.{pos}
use lib.Dec.{T, lit<, lit≤}
use lib.Pow.{pow_pos}
use lib.Ieee.{Float, binary64, add, mul, div, of_int, of_bits, le, fits}
use lib.Ieee.Exact.{HasValue}
use lib.Ieee.Fits.{add-fits}
use lib.Ieee.Scale.{finite}
use lib.Ieee.Positive.{num, den, den_pos}
use Rattle.real.proofs.SignedOrder.{P, N, SLe, sgn, le→sle, le_self}
use Rattle.real.proofs.Closed.{one, half, nought}
use Rattle.exponent_table.specs.Reduction.{floor708, exp_k, exp_rest, two_to_minus}
use Rattle.exponent_table.proofs.Table.{vl, vh, k_hi, k_lo}
use Rattle.elementary.specs.Exp.{exp_step, exp_steps}
use Rattle.elementary.specs.Ln.{three_halves}
use Rattle.elementary.proofs.StepsRange.{s_in, step_is, steps_is, steps_zero}
use Rattle.elementary.proofs.ExpRange.{K-le, fin_v, from_below, from_above, r_mag, r_fin, r_is}
use Rattle.accuracy.proofs.Nested.{U, E, XL, CL, Near, NearSteps, Reached}
use Rattle.accuracy.proofs.Close.{Within}
use Rattle.accuracy.proofs.Rounding.{u_pos, e_small}
use Rattle.accuracy.proofs.Units.{cross, le_units, units_of, add_near, exact}
use Rattle.accuracy.proofs.Steps.{steps_near, thirteen}
use Rattle.accuracy.proofs.Rows.{Row, hi_units, lo_units}
use Rattle.accuracy.proofs.Swept.{rows}
use Rattle.accuracy.proofs.Rest.{ends, apart, reduced, first_small, second_small, sums_near}

-- the steps start at 1, and their results fit
start : Near U 1 1 0
start = record { over = lit≤ tt; under = lit≤ tt }

one_fits : T (fits binary64 one)
unfolding fits
one_fits = tt

steps_fit : (j : ℕ) (r s : Float) → T (fits binary64 s) → T (fits binary64 (exp_steps j r s))
steps_fit zero r s h = rw (steps_zero r s) h
steps_fit (suc j) r s h =
    rw (steps_is j r s) (steps_fit j r (exp_step r s (suc j)) (rw (step_is r s (suc j)) (add-fits binary64 one (div binary64 (mul binary64 r s) (of_int binary64 (pos (suc j)))))))

module _ (v : Float) (F : T (fits binary64 v)) (low : T (le floor708 v)) (high : T (le v nought)) (k : ℕ) (ek : exp_k v ≡ k) where
  abbrev c : ℕ
  c = CL * den v

  abbrev x : ℕ
  x = k * XL * den v

  abbrev y : ℕ
  y = num v * CL

  abbrev r : Float
  r = exp_rest v k

  abbrev s : Float
  s = exp_steps 13 r one

  k_le : k ≤ 1021
  unfolding of_bits
  k_le = subst (λ (i : ℕ). i ≤ 1021) ek (K-le v low high)

  row : Row k
  row = rows k (lt_of_le_of_lt k_le (lit< tt))

  fv : T (finite v)
  fv = fin_v v low high

  c_pos : 0 < c
  c_pos = mul-pos (pow_pos 100) (den_pos v)

  not_above : SLe (sgn v) (num v * 1) false (0 * den v)
  not_above = le→sle v nought fv tt high

  between : Within (36 * c) (100 * x) (100 * y)
  between =
      let f = row.ends_finite in
      ends (sgn v) (sgn (vl k)) (sgn (vh k)) (num v) (den v) (num (vl k)) (den (vl k)) (num (vh k)) (den (vh k)) (k * XL) CL (den_pos (vl k)) (den_pos (vh k))
      not_above (le→sle (vl k) v f.0 fv (from_below v low high k ek)) (le→sle v (vh k) fv f.1 (from_above v low high k ek)) row.first row.last

  rho : (x - y + (y - x)) * 100 ≤ c * 36
  rho = apart x y c between

  rest : (τ : Bool) × (z : ℕ) × HasValue r τ z U × Within (3 * (E * c)) (P τ z * c + (y - x) * U) (N τ z * c + (x - y) * U)
  rest =
      let w = units_of v F fv in
      let n = w.0 * 2 ^ w.1 in
      let q = reduced (sgn v) U E CL (k * XL) (num v) (den v) (hi_units k) (lo_units k) n u_pos c_pos not_above (cross v (sgn v) n U w.3).0 row.both between row.low_small e_small in
      let a = add_near v (k_hi k) (sgn v) false n (hi_units k) U w.3 row.high (lit< tt) (first_small q) in
      let b = add_near (add binary64 v (k_hi k)) (k_lo k) a.0 false a.1 (lo_units k) U a.2 row.low (lit< tt) (second_small q (P a.0 a.1) (N a.0 a.1) a.3) in
      (b.0, b.1, rw (r_is v k) b.2, sums_near q (P a.0 a.1) (N a.0 a.1) (P b.0 b.1) (N b.0 b.1) a.3 b.3)

  near : (S : ℕ) × HasValue s false S U × NearSteps S c (x - y) (y - x)
  near =
      steps_near r rest.0 rest.1 c (x - y) (y - x) (r_fin v low high k ek) (r_mag v low high k ek) rest.2 c_pos rest.3 rho
      13 one one U 1 0 1 thirteen tt (le_self one tt) (refl, refl) start

  s_range : T (le half s) × T (le s three_halves)
  s_range = s_in r (r_fin v low high k ek) (r_mag v low high k ek)

  -- the units of the 13 steps' value
  pub steps : ℕ
  steps = near.0

  pub reached : Reached steps c x y
  unfolding steps
  reached = record { small = rho; near = near.2; half = rw (mul_comm 2 near.0) (le_units half s 1 2 near.0 U (refl, refl) near.1 s_range.0) }

  -- the answer is theirs, over 2^k
  pub answer_is : HasValue (mul binary64 s (two_to_minus k)) false steps (U * 2 ^ k)
  unfolding steps
  answer_is =
      exact s (two_to_minus k) near.0 k (steps_fit 13 r one one_fits) near.1 reached.half
      (le_units s three_halves near.0 U 3 2 near.1 (refl, refl) s_range.1) k_le row.power
