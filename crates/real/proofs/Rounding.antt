-- Rounding to a whole number by the whole part and what is left: that is exact. Assumes nothing.
use Rattle.std.proofs.Common.{◌≡◌, ℕ, suc, ◌+◌, ◌-◌, ◌*◌, ◌/◌, ◌%◌, ◌^◌, ◌<◌, ◌≤◌, min, Bool, true, false, cond, not, T, ltb, leb, ℤ, pos, negsuc, sym, refl, ap, ◌∙◌, subst, true≢false, zero-le, le_trans, le_of_eq, lt_of_le_of_lt, mul-le-mul_right, mod-lt, mul_assoc, mul_comm, div-lt_iff_lt-mul, add-mul, mul-pos, one-mul, div-add-mod', le-div_iff_mul-le, zero-mul, mul-one, mul_right_comm, not-le_of_lt, le_of_mul-le-mul_right, mul_left_comm, arith, lit≤, le→leb, ltb→lt, leb→le, nltb→le}
use native.Mathlib.Nat.{mod-le, mod-one}
use lib.Dec.{nleb→lt}
use lib.Ieee.{Float, nan, inf, fin, Format, binary64, prec, up, down, round, sum, add, sub, neg, lt, le, fits, of_int, of_bits, to_unsigned}
use lib.Ieee.Fits.{down_pos}
use lib.Ieee.Exact.{HasValue}
use lib.Ieee.Back.{round_whole as whole_kept}
use lib.Ieee.Scale.{round_same}
use Rattle.real.specs.Reals.{zero64, half64, round_whole}
use Rattle.real.proofs.SignedOrder.{sle_of, of_sle}
use Rattle.real.proofs.Values.{big64, fits_parts, round_part, untrue}

-- ---- a number less its whole part is the rest, exactly

rest : (a b c d : ℕ) → b ≡ c → a ≡ c + d → a - b ≡ d
rest a b c d p q = omega arith

pub less_whole : (f : Format) (m : ℕ) (e : ℤ) → m * up e / down e ≤ 2 ^ prec f → sub f (fin false m e) (of_int f (pos (m * up e / down e))) ≡ round f false (m * up e % down e) (down e)
unfolding sub add neg sum of_int
less_whole f m e h = go (round f false (m * up e / down e) 1) (whole_kept f false (m * up e / down e) h)
  where
    go : (y : Float) → HasValue y false (m * up e / down e) 1 → sub f (fin false m e) y ≡ round f false (m * up e % down e) (down e)
    go nan v = absurd v
    go (inf s) v = absurd v
    go (fin true n d) v = absurd (true≢false v.0)
    go (fin false n d) v =
        let D = down e in
        let t = m * up e / D in
        let r = m * up e % D in
        let A = m * up e * down d in
        let B = n * up d * D in
        let b : B ≡ t * D * down d = ap (λ (z : ℕ). z * D) (sym (mul-one (n * up d)) ∙ v.1) ∙ mul_right_comm t (down d) D in
        let a : A ≡ t * D * down d + r * down d = ap (λ (z : ℕ). z * down d) (sym (div-add-mod' (m * up e) D)) ∙ add-mul (t * D) r (down d) in
        let no : ltb A B ≡ false = untrue (ltb A B) (λ q. let k = ltb→lt A B q in not-le_of_lt k (omega arith)) in
        ap (λ (u : Bool). cond u (round f true (B - A) (D * down d)) (round f false (A - B) (D * down d))) no
        ∙ ap (λ (z : ℕ). round f false z (D * down d)) (rest A B (t * D * down d) (r * down d) b a)
        ∙ round_same f false (r * down d) (D * down d) r D (mul-pos (down_pos e) (down_pos d)) (down_pos e) (mul_right_comm r (down d) D ∙ mul_assoc r D (down d))

-- what is left has no more digits than the number
pub rest_value : (f : Format) (s : Bool) (m : ℕ) (e : ℤ) → T (fits f (fin s m e)) → HasValue (round f false (m * up e % down e) (down e)) false (m * up e % down e) (down e)
rest_value f s m (pos k) h = subst (λ (z : ℕ). HasValue (round f false z 1) false z 1) (sym (mod-one (m * 2 ^ k))) (whole_kept f false 0 zero-le)
rest_value f s m (negsuc k) h =
    let D = 2 ^ suc k in
    let r = m * 1 % D in
    let p = fits_parts f s m (negsuc k) h in
    let l : r ≤ m * 1 = mod-le (m * 1) D in
    subst (λ (z : ℕ). HasValue (round f false z D) false z D) (mul-one r)
    (round_part f false r (negsuc k) (lt_of_le_of_lt (le_trans l (le_of_eq (mul-one m))) p.0) p.1 (lt_of_le_of_lt (le_trans (le_of_eq (mul-one r)) l) p.2))

-- ---- a fraction is at least a half
pub same_truth : (a b : Bool) → (T a → T b) → (T b → T a) → a ≡ b
same_truth true true h k = refl
same_truth true false h k = absurd (h tt)
same_truth false true h k = absurd (k tt)
same_truth false false h k = refl

pub half_test : (y : Float) (r D : ℕ) → 0 < D → HasValue y false r D → le half64 y ≡ leb D (2 * r)
unfolding le of_bits
half_test nan r D p v = absurd v
half_test (inf s) r D p v = absurd v
half_test (fin true n d) r D p v = absurd (true≢false v.0)
half_test (fin false n d) r D p v =
    let e : n * up d * 2 * D ≡ n * up d * D * 2 = mul_right_comm (n * up d) 2 D in
    let g : 2 * r * down d ≡ r * down d * 2 = mul_assoc 2 r (down d) ∙ mul_comm 2 (r * down d) in
    let c : D * down d ≡ down d * D = mul_comm D (down d) in
    same_truth (le half64 (fin false n d)) (leb D (2 * r))
    (λ h.
    let k = sle_of false false (1 * down d) (n * up d * 2) h in
    let w : down d * D ≤ n * up d * 2 * D = mul-le-mul_right D (omega arith) in
    le→leb D (2 * r) (le_of_mul-le-mul_right {k = down d} (omega (arith, v.1)) (down_pos d)))
    (λ h.
    let w : D * down d ≤ 2 * r * down d = mul-le-mul_right (down d) (leb→le D (2 * r) h) in
    let u : down d ≤ n * up d * 2 = le_of_mul-le-mul_right {k = D} (omega (arith, v.1)) p in
    of_sle false false (1 * down d) (n * up d * 2) (omega arith))

-- ---- the nearest whole number to a / D
quotient : (x k q : ℕ) → 0 < k → q * k ≤ x → x < (q + 1) * k → x / k ≡ q
quotient x k q p g h =
    let u : q ≤ x / k = (le-div_iff_mul-le p).1 g in
    let w : x / k < q + 1 = (div-lt_iff_lt-mul p).1 h in
    omega arith

-- a = t D + r, with twice r at least D, or below it
module _ (a D t r : ℕ) (p : 0 < D) (e : t * D + r ≡ a) (l : r < D) where
  once : t * (2 * D) ≡ 2 * (t * D)
  once = mul_left_comm t 2 D

  next : (n : ℕ) → (n + 1) * (2 * D) ≡ n * (2 * D) + 2 * D
  next n = add-mul n 1 (2 * D) ∙ ap (λ (z : ℕ). n * (2 * D) + z) (one-mul (2 * D))

  rest_up : D ≤ 2 * r → (2 * a + D) / (2 * D) ≡ t + 1
  rest_up h =
      let q = once in
      let u = next t in
      let w = next (t + 1) in
      quotient (2 * a + D) (2 * D) (t + 1) (omega arith) (omega arith) (omega arith)

  rest_down : 2 * r < D → (2 * a + D) / (2 * D) ≡ t
  rest_down h =
      let q = once in
      let u = next t in
      quotient (2 * a + D) (2 * D) t (omega arith) (omega arith) (omega arith)

pub nearest_by_rest : (a D : ℕ) → 0 < D → (2 * a + D) / (2 * D) ≡ cond (leb D (2 * (a % D))) (a / D + 1) (a / D)
nearest_by_rest a D p = go (leb D (2 * (a % D))) (leb→le D (2 * (a % D))) (nleb→lt D (2 * (a % D)))
  where
    go : (b : Bool) → (T b → D ≤ 2 * (a % D)) → (T (not b) → 2 * (a % D) < D) → (2 * a + D) / (2 * D) ≡ cond b (a / D + 1) (a / D)
    go true h k = rest_up a D (a / D) (a % D) p (div-add-mod' a D) (mod-lt a p) (h tt)
    go false h k = rest_down a D (a / D) (a % D) p (div-add-mod' a D) (mod-lt a p) (k tt)

-- ---- what the code works out

-- the whole part, or one more where what is left is at least a half
unfoldable pub by_rest : Float → ℕ
by_rest x = let t = to_unsigned 64 x in cond (le half64 (sub binary64 x (of_int binary64 (pos t)))) (t + 1) t

pub by_rest_lem : (x : Float) → T (fits binary64 x) → T (lt zero64 x) → T (lt x big64) → by_rest x ≡ round_whole x
unfolding by_rest round_whole to_unsigned lt of_bits
by_rest_lem nan p h k = absurd h
by_rest_lem (inf true) p h k = absurd h
by_rest_lem (inf false) p h k = absurd k
by_rest_lem (fin true m e) p h k = absurd h
by_rest_lem (fin false m e) p h k =
    let a = m * up e in
    let D = down e in
    let t = a / D in
    let Q = (2 * a + D) / (2 * D) in
    let below : a * 1 < 2 ^ 32 * D = ltb→lt (a * 1) (2 ^ 32 * D) k in
    let few : t < 2 ^ 32 = (div-lt_iff_lt-mul (down_pos e)).1 (omega arith) in
    let few' : Q < 2 ^ 33 = (div-lt_iff_lt-mul {k = 2 * D} (omega (arith, down_pos e))).1 (omega (arith, down_pos e)) in
    let cut : min t (2 ^ 64 - 1) ≡ t = omega arith in
    let cut' : min Q (2 ^ 64 - 1) ≡ Q = omega arith in
    ap (λ (z : ℕ). cond (le half64 (sub binary64 (fin false m e) (of_int binary64 (pos z)))) (z + 1) z) cut
    ∙ ap (λ (y : Float). cond (le half64 y) (t + 1) t) (less_whole binary64 m e (omega arith))
    ∙ ap (λ (b : Bool). cond b (t + 1) t) (half_test (round binary64 false (a % D) D) (a % D) D (down_pos e) (rest_value binary64 false m e p))
    ∙ sym (nearest_by_rest a D (down_pos e))
    ∙ sym cut'

-- ---- from 0 down, and from 2 ^ 32 up
pub round_none : (x : Float) → T (not (lt zero64 x)) → round_whole x ≡ 0
unfolding round_whole lt of_bits
round_none nan h = refl
round_none (inf true) h = refl
round_none (inf false) h = absurd h
round_none (fin true m e) h = refl
round_none (fin false m e) h =
    let a = m * up e in
    let D = down e in
    let none : a * 1 ≤ 0 * D = nltb→le (0 * D) (a * 1) h in
    let q : (2 * a + D) / (2 * D) ≡ 0 = quotient (2 * a + D) (2 * D) 0 (omega (arith, down_pos e)) (omega (arith, zero-mul (2 * D))) (omega (arith, zero-mul D, one-mul (2 * D), down_pos e)) in
    omega arith

pub round_many : (x : Float) → T (lt zero64 x) → T (not (lt x big64)) → 2 ^ 32 ≤ round_whole x
unfolding round_whole lt of_bits
round_many nan h k = absurd h
round_many (inf true) h k = absurd h
round_many (inf false) h k = lit≤ tt
round_many (fin true m e) h k = absurd h
round_many (fin false m e) h k =
    let a = m * up e in
    let D = down e in
    let more : 2 ^ 32 * D ≤ a * 1 = nltb→le (a * 1) (2 ^ 32 * D) k in
    let q : 2 ^ 32 ≤ (2 * a + D) / (2 * D) = (le-div_iff_mul-le {k = 2 * D} (omega (arith, down_pos e))).1 (omega arith) in
    omega arith
