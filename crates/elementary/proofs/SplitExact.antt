-- A positive normal v is m·2^e exactly, with m from 1 up to below 2, as ln's definition takes them from v's bits. Assumes nothing.
use Rattle.std.proofs.Common.{◌≡◌, ℕ, zero, suc, ◌+◌, ◌*◌, ◌/◌, ◌%◌, ◌^◌, ◌<◌, ◌≤◌, true, false, ◌&&◌, T, eqb, ltb, leb, ℤ, sym, refl, ap, ◌∙◌, subst, true≢false, le_trans, le_of_eq, lt_of_lt_of_le, lt_of_le_of_lt, lt_irrefl, mul-le-mul_right, mod-eq_of_lt, mul_assoc, mul_comm, div-lt_iff_lt-mul, mul-lt-mul_of_pos_right, mul-pos, one-mul, pow-suc, zero-mul, mul-one, mul_right_comm, mul_left_comm, arith, lit<, ltb→lt, pow_pos, ne_eqb}
use native.Mathlib.Nat.{eq_of_mul-eq-mul_right}
use borrow.Author.Tests.{lt-leb}
use lib.Pow as pow
use lib.Ieee.{Float, nan, inf, fin, binary64, up, down, minus, lt, le, eq, of_fields, of_bits, to_bits, fits}
use lib.Ieee.Digits.{size-le}
use lib.Ieee.Exact.{HasValue, odd_sign}
use lib.Ieee.Fits.{down_pos, kept-lt, and_r}
use lib.Ieee.Bits.{of_bits-to_bits}
use Rattle.real.proofs.SignedOrder.{le→sle}
use Rattle.real.specs.Reals.{least_normal}
use Rattle.elementary.specs.Ln.{mantissa, exponent}
use Rattle.elementary.specs.LnSteps.{SplitAs}

-- a fraction and its equal
rescale : (v : Float) (a c b d : ℕ) → 0 < c → b * c ≡ a * d → HasValue v false a c → HasValue v false b d
rescale nan a c b d p q h = h
rescale (inf s) a c b d p q h = h
rescale (fin s m e) a c b d p q h = (
  h.0,
  eq_of_mul-eq-mul_right c p (m * up e * d) (b * down e)
      (mul_right_comm (m * up e) d c ∙ ap (λ (z : ℕ). z * d) h.1 ∙ mul_right_comm a (down e) d ∙ ap (λ (z : ℕ). z * down e) (sym q) ∙ mul_right_comm b c (down e)),
)

-- ---- the bits of a finite number with no sign are below infinity's
finite_bound : (m : ℕ) (e : ℤ) → T (fits binary64 (fin false m e)) → m * up e < 2 ^ 1024 * down e
unfolding fits
finite_bound zero e h = rw (zero-mul (up e)) (mul-pos (pow_pos 1024) (down_pos e))
finite_bound (suc m) e h = ltb→lt (suc m * up e) (2 ^ 1024 * down e) (and_r (eqb (suc m % 2) 1 && ltb (suc m) (2 ^ 53) && leb (down e) (2 ^ 1074)) (ltb (suc m * up e) (2 ^ 1024 * down e)) h)

units_bound : (m : ℕ) (e : ℤ) → T (fits binary64 (fin false m e)) → m * up e * 2 ^ 1074 / down e < 2 ^ 2098
units_bound m e h =
    (div-lt_iff_lt-mul (down_pos e)).1
    (lt_of_lt_of_le (mul-lt-mul_of_pos_right (finite_bound m e h) (pow_pos 1074)) (le_of_eq (mul_right_comm (2 ^ 1024) (down e) (2 ^ 1074))))

below_top : (m : ℕ) (e : ℤ) → T (fits binary64 (fin false m e)) → to_bits binary64 (fin false m e) < 2047 * 2 ^ 52
unfolding to_bits
below_top m e h =
    let n = m * up e * 2 ^ 1074 / down e in
    omega (arith, size-le n 2098 (units_bound m e h), kept-lt 53 n)

-- ---- a pattern below infinity's, by its fields
fields_of : (b : ℕ) → b < 2047 * 2 ^ 52 → of_bits binary64 b ≡ of_fields binary64 false (b / 2 ^ 52) (b % 2 ^ 52)
unfolding of_bits
fields_of b h =
    let whole : b % 2 ^ 63 ≡ b = mod-eq_of_lt (omega arith) in
    rw (lt-leb (2 ^ 63) b (omega arith), whole)

normal_value : (y t : ℕ) → suc y < 2047 → HasValue (of_fields binary64 false (suc y) t) false ((2 ^ 52 + t) * 2 ^ y) (2 ^ 1074)
unfolding of_fields
normal_value y t h = rw (ne_eqb (suc y) 2047 (omega arith)) (odd_sign 53 false (2 ^ 52 + t) y 1074)

small_value : (t : ℕ) → HasValue (of_fields binary64 false zero t) false (t * 2 ^ 0) (2 ^ 1074)
unfolding of_fields
small_value t = odd_sign 53 false t 0 1074

-- ---- a number from 2^-1022 on has a field above 0
clash : (M D t W Q : ℕ) → 1 * D ≤ M * W → M * (W * Q) ≡ t * 1 * D → t < Q → 0 < D → ⊥
clash M D t W Q h e l p =
    let a : D * Q ≤ M * W * Q = mul-le-mul_right Q (le_trans (le_of_eq (sym (one-mul D))) h) in
    let b : M * W * Q ≡ t * D = mul_assoc M W Q ∙ e ∙ ap (λ (z : ℕ). z * D) (mul-one t) in
    let c : t * D < Q * D = mul-lt-mul_of_pos_right l p in
    lt_irrefl (Q * D) (lt_of_le_of_lt (le_trans (le_of_eq (mul_comm Q D)) (le_trans a (le_of_eq b))) c)

plain : (a b : ℕ) → a + 0 ≤ b + 0 → a ≤ b
plain a b h = omega arith

not_small : (v : Float) (t : ℕ) → T (le least_normal v) → HasValue v false (t * 2 ^ 0) (2 ^ 1074) → t < 2 ^ 52 → ⊥
unfolding of_bits
not_small nan t h k l = k
not_small (inf s) t h k l = k
not_small (fin true m e) t h k l = true≢false k.0
not_small (fin false m e) t h k l =
    let o = le→sle least_normal (fin false m e) tt tt h in
    clash (m * up e) (down e) t (2 ^ 1022) (2 ^ 52) (plain (1 * down e) (m * up e * 2 ^ 1022) o) k.1 l (down_pos e)

no_sign : (m : ℕ) (e : ℤ) → T (le least_normal (fin true m e)) → ⊥
unfolding of_bits
no_sign m e h = none (1 * down e) _ (lt_of_lt_of_le (down_pos e) (le_of_eq (sym (one-mul (down e))))) (le→sle least_normal (fin true m e) tt tt h)
  where
    none : (a b : ℕ) → 0 < a → a + b ≤ 0 + 0 → ⊥
    none a b p q = omega arith

-- ---- v and m by their fields
doubled : (n p q : ℕ) → n * (p * 2) * q ≡ n * p * (2 * q)
doubled n p q = simp (mul_assoc, mul_comm, mul_left_comm)

value_of : (v : Float) (x t : ℕ) → x < 2047 → t < 2 ^ 52 → of_fields binary64 false x t ≡ v → T (le least_normal v) → (1 ≤ x) × HasValue v false ((2 ^ 52 + t) * 2 ^ x) (2 ^ 1075)
value_of v zero t h l e k = absurd (not_small v t k (subst (λ (w : Float). HasValue w false (t * 2 ^ 0) (2 ^ 1074)) e (small_value t)) l)
value_of v (suc y) t h l e k = (
  omega arith,
  rescale v ((2 ^ 52 + t) * 2 ^ y) (2 ^ 1074) ((2 ^ 52 + t) * 2 ^ suc y) (2 ^ 1075) (pow_pos 1074)
      (ap (λ (z : ℕ). (2 ^ 52 + t) * z * 2 ^ 1074) (pow-suc 2 y) ∙ doubled (2 ^ 52 + t) (2 ^ y) (2 ^ 1074))
      (subst (λ (w : Float). HasValue w false ((2 ^ 52 + t) * 2 ^ y) (2 ^ 1074)) e (normal_value y t h)),
)

m_value : (t : ℕ) → t < 2 ^ 52 → HasValue (of_bits binary64 (1023 * 2 ^ 52 + t)) false (2 ^ 52 + t) (2 ^ 52)
m_value t h =
    let n = 2 ^ 52 + t in
    let b = 1023 * 2 ^ 52 + t in
    let is : of_bits binary64 b ≡ of_fields binary64 false 1023 t = fields_of b (omega arith) ∙ rw (pow.high 1023 52 h, pow.low 1023 52 h) in
    rescale (of_bits binary64 b) (n * 2 ^ 1022) (2 ^ 1074) n (2 ^ 52) (pow_pos 1074) (sym (mul_assoc n (2 ^ 1022) (2 ^ 52)))
    (subst (λ (w : Float). HasValue w false (n * 2 ^ 1022) (2 ^ 1074)) (sym is) (normal_value 1022 t (lit< tt)))

split_of : (v : Float) (b : ℕ) → b ≡ to_bits binary64 v → b < 2047 * 2 ^ 52 → of_bits binary64 b ≡ v → T (le least_normal v) → SplitAs v (2 ^ 52 + b % 2 ^ 52) (b / 2 ^ 52)
unfolding mantissa exponent
split_of v b is h e k =
    let t : b % 2 ^ 52 < 2 ^ 52 = omega arith in
    let r = value_of v (b / 2 ^ 52) (b % 2 ^ 52) (omega arith) t (sym (fields_of b h) ∙ e) k in
    record {
      digits = (omega arith, omega arith);
      field = (r.0, omega arith);
      mantissa_is = subst (λ (z : ℕ). HasValue (of_bits binary64 (1023 * 2 ^ 52 + z % 2 ^ 52)) false (2 ^ 52 + b % 2 ^ 52) (2 ^ 52)) is (m_value (b % 2 ^ 52) t);
      exponent_is = ap (λ (z : ℕ). minus (z / 2 ^ 52) 1023) (sym is);
      value_is = r.1;
    }

pub split_exact : (v : Float) → T (fits binary64 v) → T (le least_normal v) → T (lt v (inf false)) → SplitAs v (2 ^ 52 + to_bits binary64 v % 2 ^ 52) (to_bits binary64 v / 2 ^ 52)
unfolding le lt eq of_bits
split_exact nan f k h = absurd h
split_exact (inf true) f k h = absurd k
split_exact (inf false) f k h = absurd h
split_exact (fin true m e) f k h = absurd (no_sign m e k)
split_exact (fin false m e) f k h = split_of (fin false m e) _ refl (below_top m e f) (of_bits-to_bits binary64 (fin false m e) f) k
