-- exp from 0 down: the whole part is asked only of a number from 1/2 to 1022, K is at most 1021, |r| at most 0.35, and the answer is from 0 to 1, for every v that is no NaN and at most 0, minus infinity included. Assumes nothing.
use Rattle.std.proofs.Common.{◌≡◌, ℕ, zero, suc, ◌<◌, ◌≤◌, Bool, true, false, cond, not, T, ltb, pos, sym, refl, subst, inl, inr, lt_of_le_of_lt, arith, lit<, ltb→lt}
use lib.Ieee.{Float, nan, inf, fin, binary64, add, mul, neg, lt, le, eq, of_bits, to_unsigned, is_nan, fits}
use lib.Ieee.Fits.{and_l, and_r, mul-fits, cond-fits, nan-fits}
use lib.Ieee.Bits.{is_true}
use lib.Ieee.Scale.{finite}
use Rattle.real.specs.Reals.{zero64, one64, magnitude}
use Rattle.real.proofs.Closed.{one, half, nought}
use Rattle.real.proofs.SignedOrder.{le_tr, le_total, neg_anti, natural, nat_fin, add_mono, mul_smono, mul_nmono, mag_of, in_fin, above_nat, to_unsigned_mono, lt_of_not_le, nlt→le, le_self, neg_finite, zero_times}
use Rattle.exponent_table.specs.Reduction.{INV, floor708, exp_k, exp_rest, two_to_minus}
use Rattle.elementary.specs.Exp.{exp_steps, exp_near, expv}
use Rattle.elementary.specs.Ln.{three_halves}
use Rattle.elementary.proofs.StepsRange.{R35-nat, s_in, s_neg}
use Rattle.exponent_table.proofs.Tests.{All}
use Rattle.exponent_table.proofs.Table.{R35, uncut, vl, vh, k_hi, k_lo, tests}
use Rattle.exponent_table.proofs.Sweep.{table}

INV-nat : T (natural INV)
unfolding of_bits
INV-nat = tt

uncut_is : (v : Float) → uncut v ≡ add binary64 half (neg (mul binary64 v INV))
unfolding uncut of_bits
uncut_is v = refl

-- as v grows, 0.5 - v·INV falls
uncut_anti : (v w : Float) → T (finite v) → T (finite w) → T (finite (mul binary64 v INV)) → T (finite (mul binary64 w INV)) → T (le v w) → T (le (uncut w) (uncut v))
uncut_anti v w fv fw gv gw h =
    subst (λ (x : Float). T (le x (uncut v))) (sym (uncut_is w))
    (subst (λ (x : Float). T (le (add binary64 half (neg (mul binary64 w INV))) x)) (sym (uncut_is v))
    (add_mono binary64 half half (neg (mul binary64 w INV)) (neg (mul binary64 v INV)) tt tt (neg_finite (mul binary64 w INV) gw) (neg_finite (mul binary64 v INV) gv) (le_self half tt)
    (neg_anti (mul binary64 v INV) (mul binary64 w INV) (mul_smono binary64 v w INV fv fw INV-nat h))))

-- the two ends
uncut_top : T (le half (uncut nought)) × T (finite (mul binary64 nought INV))
unfolding uncut le mul of_bits
uncut_top = (tt, tt)

uncut_bottom : T (le (uncut floor708) (fin false 511 (pos 1))) × T (finite (mul binary64 floor708 INV)) × T (natural (uncut floor708))
unfolding uncut le mul of_bits
uncut_bottom = (tt, tt, tt)

K-bottom : to_unsigned 64 (uncut floor708) ≡ 1021
unfolding uncut to_unsigned of_bits
K-bottom = refl

K-is : (v : Float) → exp_k v ≡ to_unsigned 64 (uncut v)
unfolding exp_k uncut
K-is v = refl

pub r_is : (v : Float) (k : ℕ) → exp_rest v k ≡ add binary64 (add binary64 v (k_hi k)) (k_lo k)
unfolding exp_rest
r_is v k = refl

no1 : T (le half (fin true 1 (pos 0))) → ⊥
unfolding le
no1 t = t

no2 : T (le (fin false 1 (pos 64)) (fin false 511 (pos 1))) → ⊥
unfolding le
no2 t = t

pub finite_not_nan : (x : Float) → T (finite x) → T (not (is_nan x))
unfolding is_nan
finite_not_nan nan p = absurd p
finite_not_nan (inf s) p = absurd p
finite_not_nan (fin s m e) p = tt

module _ (v : Float) (low : T (le floor708 v)) (high : T (le v nought)) where
  pub fin_v : T (finite v)
  fin_v = in_fin floor708 v nought tt tt low high

  mul_v : T (finite (mul binary64 v INV))
  mul_v = in_fin (mul binary64 floor708 INV) (mul binary64 v INV) (mul binary64 nought INV) uncut_bottom.1 uncut_top.1 (mul_smono binary64 floor708 v INV tt fin_v INV-nat low) (mul_smono binary64 v nought INV fin_v tt INV-nat high)

  -- 0.5 - v·INV lies from 1/2 to 1022
  pub uncut_low : T (le half (uncut v))
  uncut_low = le_tr half (uncut nought) (uncut v) uncut_top.0 (uncut_anti v nought fin_v tt mul_v uncut_top.1 high)

  uncut_high' : T (le (uncut v) (uncut floor708))
  uncut_high' = uncut_anti floor708 v tt fin_v uncut_bottom.1 mul_v low

  pub uncut_high : T (le (uncut v) (fin false 511 (pos 1)))
  uncut_high = le_tr (uncut v) (uncut floor708) (fin false 511 (pos 1)) uncut_high' uncut_bottom.0

  uncut_nat : T (natural (uncut v))
  uncut_nat = above_nat half (uncut v) (fin false 511 (pos 1)) tt tt uncut_low uncut_high

  -- what `truncating_f64_to_u64` asks
  pub uncut_in_range : T (lt (fin true 1 (pos 0)) (uncut v)) × T (lt (uncut v) (fin false 1 (pos 64)))
  uncut_in_range = (
    lt_of_not_le (fin true 1 (pos 0)) (uncut v) tt (nat_fin (uncut v) uncut_nat) (λ h. no1 (le_tr half (uncut v) (fin true 1 (pos 0)) uncut_low h)),
    lt_of_not_le (uncut v) (fin false 1 (pos 64)) (nat_fin (uncut v) uncut_nat) tt (λ h. no2 (le_tr (fin false 1 (pos 64)) (uncut v) (fin false 511 (pos 1)) h uncut_high)),
  )

  most_halvings : exp_k v ≤ 1021
  most_halvings = subst (λ (k : ℕ). k ≤ 1021) (sym (K-is v)) (subst (λ (k : ℕ). to_unsigned 64 (uncut v) ≤ k) K-bottom (to_unsigned_mono 64 (uncut v) (uncut floor708) uncut_nat uncut_bottom.2 uncut_high'))

pub K-le : (v : Float) → T (le floor708 v) → T (le v zero64) → exp_k v ≤ 1021
unfolding of_bits
K-le v low high = most_halvings v low high

nought_half : T (le nought half)
unfolding le
nought_half = tt

one_one : mul binary64 one one ≡ one
unfolding mul
one_one = refl

three_quarters : T (le (mul binary64 three_halves half) one)
unfolding mul le
three_quarters = tt

r_zero : T (le (exp_rest nought zero) nought)
unfolding exp_rest le
r_zero = tt

-- ---- r, with what the table says of K
module _ (v : Float) (low : T (le floor708 v)) (high : T (le v nought)) where
  tab : (k : ℕ) → exp_k v ≡ k → All (tests k)
  tab k e = table k (lt_of_le_of_lt (subst (λ (i : ℕ). i ≤ 1021) e (most_halvings v low high)) (lit< tt))

  -- v is above the lower number of its K
  pub from_below : (k : ℕ) → exp_k v ≡ k → T (le (vl k) v)
  from_below k e =
      let t = tab k e in
      let t4 = t.1.1.1.1 in
      let t10 = t4.1.1.1.1.1.1 in
      elim (le_total (vl k) v (finite_not_nan (vl k) t4.0) (finite_not_nan v (fin_v v low high))) [
        | inl h ↦ h
        | inr h ↦
            let m = to_unsigned_mono 64 (uncut (vl k)) (uncut v) t10.1.1.0 (uncut_nat v low high) (uncut_anti v (vl k) (fin_v v low high) t4.0 (mul_v v low high) t10.0 h) in
            absurd (clash (exp_k (vl k)) (exp_k v) k (to_unsigned 64 (uncut (vl k))) (to_unsigned 64 (uncut v)) (K-is (vl k)) (K-is v) e m (ltb→lt k (exp_k (vl k)) t.0))
      ]
    where
      clash : (a b c x y : ℕ) → a ≡ x → b ≡ y → b ≡ c → x ≤ y → c < a → ⊥
      clash a b c x y p q r h l = omega arith

  -- and below the upper one
  pub from_above : (k : ℕ) → exp_k v ≡ k → T (le v (vh k))
  from_above zero e = high
  from_above (suc k) e =
      let t = tab (suc k) e in
      let t4 = t.1.1.1.1 in
      let t10 = t4.1.1.1.1.1.1 in
      let w = vh (suc k) in
      elim (le_total v w (finite_not_nan v (fin_v v low high)) (finite_not_nan w t4.1.0)) [
        | inl h ↦ h
        | inr h ↦
            let m = to_unsigned_mono 64 (uncut v) (uncut w) (uncut_nat v low high) t10.1.1.1.0 (uncut_anti w v t4.1.0 (fin_v v low high) t10.1.0 (mul_v v low high) h) in
            absurd (clash (exp_k v) (exp_k w) (suc k) (to_unsigned 64 (uncut v)) (to_unsigned 64 (uncut w)) (K-is v) (K-is w) e m (ltb→lt (exp_k w) (suc k) (and_l (ltb (exp_k w) (suc k)) (le (two_to_minus (suc k)) half) t.1.0)))
      ]
    where
      clash : (a b c x y : ℕ) → a ≡ x → b ≡ y → a ≡ c → x ≤ y → b < c → ⊥
      clash a b c x y p q r h l = omega arith

  sum_fin : (k : ℕ) → exp_k v ≡ k → T (finite (add binary64 v (k_hi k)))
  sum_fin k e =
      let t4 = (tab k e).1.1.1.1 in
      in_fin (add binary64 (vl k) (k_hi k)) (add binary64 v (k_hi k)) (add binary64 (vh k) (k_hi k)) t4.1.1.1.1.0 t4.1.1.1.1.1.0
      (add_mono binary64 (vl k) v (k_hi k) (k_hi k) t4.0 (fin_v v low high) t4.1.1.0 t4.1.1.0 (from_below k e) (le_self (k_hi k) t4.1.1.0))
      (add_mono binary64 v (vh k) (k_hi k) (k_hi k) (fin_v v low high) t4.1.0 t4.1.1.0 t4.1.1.0 (from_above k e) (le_self (k_hi k) t4.1.1.0))

  r_low : (k : ℕ) → exp_k v ≡ k → T (le (neg R35) (exp_rest v k))
  r_low k e =
      let t = tab k e in
      let t4 = t.1.1.1.1 in
      let A = k_hi k in
      let C = k_lo k in
      le_tr (neg R35) (exp_rest (vl k) k) (exp_rest v k) t.1.1.0
      (subst (λ (x : Float). T (le x (exp_rest v k))) (sym (r_is (vl k) k))
      (subst (λ (x : Float). T (le (add binary64 (add binary64 (vl k) A) C) x)) (sym (r_is v k))
      (add_mono binary64 (add binary64 (vl k) A) (add binary64 v A) C C t4.1.1.1.1.0 (sum_fin k e) t4.1.1.1.0 t4.1.1.1.0
      (add_mono binary64 (vl k) v A A t4.0 (fin_v v low high) t4.1.1.0 t4.1.1.0 (from_below k e) (le_self A t4.1.1.0)) (le_self C t4.1.1.1.0))))

  r_up : (k : ℕ) → exp_k v ≡ k → T (le (exp_rest v k) (exp_rest (vh k) k))
  r_up k e =
      let t = tab k e in
      let t4 = t.1.1.1.1 in
      let A = k_hi k in
      let C = k_lo k in
      subst (λ (x : Float). T (le x (exp_rest (vh k) k))) (sym (r_is v k))
      (subst (λ (x : Float). T (le (add binary64 (add binary64 v A) C) x)) (sym (r_is (vh k) k))
      (add_mono binary64 (add binary64 v A) (add binary64 (vh k) A) C C (sum_fin k e) t4.1.1.1.1.1.0 t4.1.1.1.0 t4.1.1.1.0
      (add_mono binary64 v (vh k) A A (fin_v v low high) t4.1.0 t4.1.1.0 t4.1.1.0 (from_above k e) (le_self A t4.1.1.0)) (le_self C t4.1.1.1.0)))

  r_high : (k : ℕ) → exp_k v ≡ k → T (le (exp_rest v k) R35)
  r_high k e = le_tr (exp_rest v k) (exp_rest (vh k) k) R35 (r_up k e) (tab k e).1.1.1.0

  pub r_fin : (k : ℕ) → exp_k v ≡ k → T (finite (exp_rest v k))
  r_fin k e = in_fin (neg R35) (exp_rest v k) R35 (neg_finite R35 (nat_fin R35 R35-nat)) (nat_fin R35 R35-nat) (r_low k e) (r_high k e)

  pub r_mag : (k : ℕ) → exp_k v ≡ k → T (le (magnitude (exp_rest v k)) R35)
  r_mag k e = mag_of (exp_rest v k) R35 (r_fin k e) R35-nat (r_low k e) (r_high k e)

  pub s_nat : (k : ℕ) → exp_k v ≡ k → T (natural (exp_steps 13 (exp_rest v k) one))
  s_nat k e = let i = s_in (exp_rest v k) (r_fin k e) (r_mag k e) in above_nat half (exp_steps 13 (exp_rest v k) one) three_halves tt tt i.0 i.1

  pub answer_low : (k : ℕ) → exp_k v ≡ k → T (le nought (mul binary64 (exp_steps 13 (exp_rest v k) one) (two_to_minus k)))
  answer_low k e =
      let p : T (natural (two_to_minus k)) = (tab k e).1.1.1.1.1.1.1.1.1.1.1.1.1.1.0 in
      let s = exp_steps 13 (exp_rest v k) one in
      subst (λ (x : Float). T (le x (mul binary64 s (two_to_minus k)))) (zero_times binary64 (two_to_minus k) p)
      (mul_smono binary64 nought s (two_to_minus k) tt (nat_fin s (s_nat k e)) p (le_tr nought half s nought_half (s_in (exp_rest v k) (r_fin k e) (r_mag k e)).0))

  pub answer_high : (k : ℕ) → exp_k v ≡ k → T (le (mul binary64 (exp_steps 13 (exp_rest v k) one) (two_to_minus k)) one)
  answer_high zero e =
      let p : T (natural (two_to_minus zero)) = (tab zero e).1.1.1.1.1.1.1.1.1.1.1.1.1.1.0 in
      let p1 : T (le (two_to_minus zero) one) = (tab zero e).1.1.1.1.1.1.1.1.1.1.1.1.1.1.1.0 in
      let s = exp_steps 13 (exp_rest v zero) one in
      subst (λ (x : Float). T (le (mul binary64 s (two_to_minus zero)) x)) one_one
      (mul_nmono binary64 s one (two_to_minus zero) one (s_nat zero e) tt p tt (s_neg (exp_rest v zero) (r_fin zero e) (r_mag zero e) (le_tr (exp_rest v zero) (exp_rest nought zero) nought (r_up zero e) r_zero)) p1)
  answer_high (suc k) e =
      let t = tab (suc k) e in
      let p : T (natural (two_to_minus (suc k))) = t.1.1.1.1.1.1.1.1.1.1.1.1.1.1.0 in
      let p1 : T (le (two_to_minus (suc k)) half) = and_r (ltb (exp_k (vh (suc k))) (suc k)) (le (two_to_minus (suc k)) half) t.1.0 in
      let s = exp_steps 13 (exp_rest v (suc k)) one in
      le_tr (mul binary64 s (two_to_minus (suc k))) (mul binary64 three_halves half) one
      (mul_nmono binary64 s three_halves (two_to_minus (suc k)) half (s_nat (suc k) e) tt p tt (s_in (exp_rest v (suc k)) (r_fin (suc k) e) (r_mag (suc k) e)).1 p1) three_quarters

-- ---- the answer
pub near_is : (v : Float) → exp_near v ≡ mul binary64 (exp_steps 13 (exp_rest v (exp_k v)) one) (two_to_minus (exp_k v))
unfolding exp_near of_bits
near_is v = refl

pub v_is : (v : Float) → expv v ≡ cond (lt v floor708) nought (cond (le v nought) (exp_near v) nan)
unfolding expv of_bits
v_is v = refl

nought_one : T (le nought nought) × T (le nought one)
unfolding le
nought_one = (tt, tt)

exp_range : (v : Float) → T (not (is_nan v)) → T (le v nought) → T (le nought (expv v)) × T (le (expv v) one)
exp_range v nn h = subst (λ (x : Float). T (le nought x) × T (le x one)) (sym (v_is v)) (go (lt v floor708) (le v nought) (nlt→le v floor708 nn fn) h)
  where
    fn : T (not (is_nan floor708))
    fn = finite_not_nan floor708 tt

    go : (b a : Bool) → (T (not b) → T (le floor708 v)) → T a → T (le nought (cond b nought (cond a (exp_near v) nan))) × T (le (cond b nought (cond a (exp_near v) nan)) one)
    go true a k p = nought_one
    go false true k p =
        subst (λ (x : Float). T (le nought x) × T (le x one)) (sym (near_is v)) (answer_low v (k tt) h (exp_k v) refl, answer_high v (k tt) h (exp_k v) refl)
    go false false k p = absurd p

pub exp_in : (v : Float) → T (not (is_nan v)) → T (le v zero64) → T (finite (expv v)) × T (le zero64 (expv v)) × T (le (expv v) one64)
unfolding of_bits
exp_in v n h = let i = exp_range v n h in (in_fin nought (expv v) one tt tt i.0 i.1, i.0, i.1)

-- whatever v is, the answer is a number of binary64
pub exp_fits : (v : Float) → T (fits binary64 (expv v))
unfolding expv of_bits
exp_fits v = cond-fits binary64 (lt v floor708) nought _ (unfold fits in tt) (cond-fits binary64 (le v nought) (exp_near v) nan near (nan-fits binary64))
  where
    near : T (fits binary64 (exp_near v))
    near = unfold exp_near in mul-fits binary64 (exp_steps 13 (exp_rest v (exp_k v)) one64) (two_to_minus (exp_k v))

-- what is at most 0 and not below -708 is -708 or more
number_of : (v : Float) → T (le v nought) → T (not (is_nan v))
unfolding le lt eq is_nan
number_of nan h = h
number_of (inf s) h = tt
number_of (fin s m e) h = tt

pub from_floor : (v : Float) → lt v floor708 ≡ false → le v nought ≡ true → le floor708 v ≡ true
from_floor v f h =
    is_true (le floor708 v)
    (nlt→le v floor708 (number_of v (subst T (sym h) tt)) (finite_not_nan floor708 tt) (subst (λ (b : Bool). T (not b)) (sym f) tt))
