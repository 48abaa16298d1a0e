-- How true exp is: `near_power_series`, at the end. Assumes nothing.
use mathlib.Core.Path.{◌≡◌, refl, sym, ap, ◌∙◌, subst}
use mathlib.Core.Logic.{◌⊎◌, inl, inr}
use Prim.Native.Nat.{ℕ, zero, suc, ◌+◌, ◌-◌, ◌*◌, ◌%◌, ◌^◌, ◌≤◌, ◌<◌}
use native.Mathlib.Nat.{lt_irrefl, lt_of_le_of_lt, mul_comm, zero-mul, mul-le-mul_left, le_of_mul-le-mul_left, mul-pos, mul-sub}
use native.Mathlib.Omega.{arith}
use mathlib.Core.Bool.{Bool, true, false, not, cond}
use lib.Dec.{T, ltb, ltb→lt}
use lib.Pow.{pow_pos}
use lib.Ieee.{Float, nan, inf, fin, binary64, mul, lt, le, fits, of_bits}
use lib.Ieee.Bits.{is_true}
use lib.Ieee.Positive.{num, den, den_pos}
use lib.Ieee.Scale.{finite}
use Rattle.real.specs.Fractions.{Fraction, fraction, fraction_plus, fraction_minus, fraction_times, fraction_of}
use Rattle.real.specs.Reals.{zero64}
use Rattle.real.proofs.Cases.{by_test}
use Rattle.real.proofs.Closed.{one, nought}
use Rattle.real.proofs.SignedOrder.{sgn, SLe, le→sle, apart}
use Rattle.exponent_table.specs.Reduction.{floor708, exp_k, exp_rest, two_to_minus}
use Rattle.elementary.specs.Exp.{exp_steps, exp_near, expv}
use Rattle.elementary.proofs.ExpRange.{K-le, fin_v, near_is, v_is}
use Rattle.accuracy.specs.PowerSeries.{partial_sum, AtMost, parts, slack, NearPowerSeries}
use Rattle.accuracy.proofs.Nested.{U, CL}
use Rattle.accuracy.proofs.Units.{cross}
use Rattle.accuracy.proofs.Rounded.{steps, reached, answer_is}
use Rattle.accuracy.proofs.Terms.{Terms, terms_of, terms_are, unit, unit_pos, unscaled}
use Rattle.accuracy.proofs.Opposite.{odd}
use Rattle.accuracy.proofs.Between.{top_for, even_bound, odd_bound}
use Rattle.accuracy.proofs.Partial.{Worth, evens, odds, sum_worth}

-- ---- from parts to fractions

odd_when : (n : ℕ) → n % 2 ≡ 1 → odd n ≡ true
unfolding odd
odd_when zero h = absurd (lt_irrefl 0 (omega arith))
odd_when (suc zero) h = refl
odd_when (suc (suc n)) h = ap (λ (b : Bool). not (not b)) (odd_when n (omega arith))

even_when : (n : ℕ) → n % 2 ≡ 0 → odd n ≡ false
unfolding odd
even_when zero h = refl
even_when (suc zero) h = absurd (lt_irrefl 0 (omega arith))
even_when (suc (suc n)) h = ap (λ (b : Bool). not (not b)) (even_when n (omega arith))

not_less : (a b : ℕ) → b ≤ a → T (not (ltb a b))
not_less a b h = go (ltb a b) (ltb→lt a b)
  where
    go : (x : Bool) → (T x → a < b) → T (not x)
    go true f = lt_irrefl b (lt_of_le_of_lt h (f tt))
    go false f = tt

-- z/d is (up - lo)/o, and n/e is S/q: what holds of up - lo and S holds of the fractions
module _ (o S q n e up lo : ℕ) (O : 0 < o) (Q : 0 < q) (is : n * q ≡ S * e) where
  difference : (z d : ℕ) → z * o + d * lo ≡ 0 * o + d * up → z * o ≡ d * (up - lo)
  difference z d h = omega (arith, mul-sub d up lo)

  -- both sides times o·q
  left_side : (z d g : ℕ) → z * o ≡ d * (up - lo) → o * q * (z * (e * g)) ≡ d * e * (g * ((up - lo) * q))
  left_side z d g h = omega (arith, ap (λ (i : ℕ). e * g * q * i) h)

  right_side : (d g : ℕ) → d * e * (g * (o * S)) ≡ o * q * (n * g * d)
  right_side d g = omega (arith, ap (λ (i : ℕ). d * g * o * i) is)

  odd_fraction : (f : Fraction) → Worth f o up lo → parts * ((up - lo) * q) ≤ (parts + 1) * (o * S) → AtMost f (fraction_times (fraction false n e) (fraction_plus (fraction false 1 1) slack))
  odd_fraction (fraction true z d) w h = tt
  odd_fraction (fraction false z d) w h =
      not_less (n * (parts + 1) * d) (z * (e * parts))
      (le_of_mul-le-mul_left (rw (left_side z d parts (difference z d w.1), sym (right_side d (parts + 1))) (mul-le-mul_left (d * e) h)) (mul-pos O Q))

  even_fraction : (f : Fraction) → Worth f o up lo → 0 < S → (parts - 1) * (o * S) ≤ parts * ((up - lo) * q) → AtMost (fraction_times (fraction false n e) (fraction_minus (fraction false 1 1) slack)) f
  even_fraction (fraction false z d) w s h =
      not_less (z * (e * parts)) (n * (parts - 1) * d)
      (le_of_mul-le-mul_left (rw (left_side z d parts (difference z d w.1), sym (right_side d (parts - 1))) (mul-le-mul_left (d * e) h)) (mul-pos O Q))
  even_fraction (fraction true z d) w s h = absurd (never (o * S) ((up - lo) * q) (mul-pos O s) none h)
    where
      none : (up - lo) * q ≡ 0
      none = let m : d * up ≤ d * lo = omega (arith, w.1) in let l : up ≤ lo = le_of_mul-le-mul_left m w.0 in let i : up - lo ≡ 0 = omega arith in rw i (zero-mul q)

      never : (a b : ℕ) → 0 < a → b ≡ 0 → (parts - 1) * a ≤ parts * b → ⊥
      never a b p i h = omega arith

-- ---- exp

-- v from -708 to 0 is a negative fraction, or 0
fraction_is : (v : Float) → T (finite v) → fraction_of v ≡ fraction (sgn v) (num v) (den v)
fraction_is nan f = absurd f
fraction_is (inf s) f = absurd f
fraction_is (fin s m e) f = refl

negative : (v : Float) → T (finite v) → T (le v nought) → (sgn v ≡ true) ⊎ (num v ≡ 0)
negative v f h = go (sgn v) (le→sle v nought f tt h)
  where
    go : (s : Bool) → SLe s (num v * 1) false (0 * den v) → (s ≡ true) ⊎ (num v ≡ 0)
    go true l = inl refl
    go false l = inr (omega arith)

value : (v : Float) → T (le floor708 v) → T (le v nought) → expv v ≡ exp_near v
value v low high =
    v_is v ∙ by_test (λ (e : Float). e ≡ exp_near v) (lt v floor708) nought (cond (le v nought) (exp_near v) nan)
    (λ b. absurd (apart v floor708 (subst T (sym b) tt) low)) (λ b. ap (λ (a : Bool). cond a (exp_near v) nan) (is_true (le v nought) high))

module _ (v : Float) (F : T (fits binary64 v)) (low : T (le floor708 v)) (high : T (le v nought)) where
  abbrev k : ℕ
  k = exp_k v

  abbrev e : Float
  e = mul binary64 (exp_steps 13 (exp_rest v k) one) (two_to_minus k)

  abbrev S : ℕ
  S = steps v F low high k refl

  abbrev c : ℕ
  c = CL * den v

  most : k ≤ 1021
  unfolding of_bits
  most = K-le v low high

  e_parts : (num e * (U * 2 ^ k) ≡ S * den e) × (sgn e ≡ false) × T (finite e)
  e_parts = cross e false S (U * 2 ^ k) (answer_is v F low high k refl)

  e_is : num e * (2 ^ k * U) ≡ S * den e
  e_is = ap (λ (z : ℕ). num e * z) (mul_comm (2 ^ k) U) ∙ e_parts.0

  e_fraction : fraction_of e ≡ fraction false (num e) (den e)
  e_fraction = fraction_is e e_parts.2 ∙ ap (λ (b : Bool). fraction b (num e) (den e)) e_parts.1

  positive : 0 < S
  positive = over (pow_pos 1074) (reached v F low high k refl).half
    where
      over : {u : ℕ} → 0 < u → u ≤ 2 * S → 0 < S
      over h l = omega arith

  abbrev o : ℕ → ℕ
  o n = unit (top_for n) c

  abbrev t : ℕ → ℕ → ℕ
  t n = terms_of (top_for n) c (num v * CL)

  worth : (n : ℕ) → Worth (partial_sum (fraction_of v) n) (o n) (evens (t n) n) (odds (t n) n)
  worth n =
      let f = fin_v v low high in
      let is =
      unscaled (top_for n) (num v) (den v) (o n) CL (t n) (pow_pos 100)
      (subst (λ (z : ℕ). Terms (top_for n) (num v * CL) z (o n) (t n)) (mul_comm CL (den v)) (terms_are (top_for n) c (num v * CL))) in
      rw (fraction_is v f) (sum_worth (den_pos v) is (negative v f high) n (omega arith))

  one_pos : (n : ℕ) → 0 < o n
  one_pos n = unit_pos (top_for n) c (mul-pos (pow_pos 100) (den_pos v))

  two_pos : 0 < 2 ^ k * U
  two_pos = mul-pos (pow_pos k) (pow_pos 1074)

  steps_near : NearPowerSeries (fraction_of v) (fraction_of e)
  steps_near = rw e_fraction (record { odd_power = odd_power; even_power = even_power })
    where
      odd_power : (n : ℕ) → n % 2 ≡ 1 → AtMost (partial_sum (fraction_of v) n) (fraction_times (fraction false (num e) (den e)) (fraction_plus (fraction false 1 1) slack))
      odd_power n h =
          let i = odd_when n h in
          odd_fraction (o n) S (2 ^ k * U) (num e) (den e) (evens (t n) n) (odds (t n) n) (one_pos n) two_pos e_is (partial_sum (fraction_of v) n) (worth n)
          (rw i (odd_bound (den v) (num v * CL) k S (den_pos v) most (reached v F low high k refl) n i))

      even_power : (n : ℕ) → n % 2 ≡ 0 → AtMost (fraction_times (fraction false (num e) (den e)) (fraction_minus (fraction false 1 1) slack)) (partial_sum (fraction_of v) n)
      even_power n h =
          let i = even_when n h in
          even_fraction (o n) S (2 ^ k * U) (num e) (den e) (evens (t n) n) (odds (t n) n) (one_pos n) two_pos e_is (partial_sum (fraction_of v) n) (worth n) positive
          (rw i (even_bound (den v) (num v * CL) k S (den_pos v) most (reached v F low high k refl) n i))

pub near_power_series : (v : Float) → T (fits binary64 v) → T (le floor708 v) → T (le v zero64) → NearPowerSeries (fraction_of v) (fraction_of (expv v))
unfolding of_bits
near_power_series v F low high = rw (value v low high ∙ near_is v) (steps_near v F low high)
