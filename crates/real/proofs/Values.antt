-- Values of binary64: a number less itself, a number's whole part and its size, and that a number of the format is rounded to itself. Assumes nothing.
use Rattle.std.proofs.Common.{◌≡◌, ℕ, zero, suc, ◌+◌, ◌-◌, ◌*◌, ◌/◌, ◌%◌, ◌^◌, ◌<◌, ◌≤◌, Bool, true, false, cond, not, ◌&&◌, ◌||◌, T, eqb, ltb, leb, ℤ, pos, negsuc, sym, refl, ap, ◌∙◌, subst, inl, inr, not-suc-le-zero, lt_irrefl, mul_assoc, mul_comm, lt_of_mul-lt-mul_right, mul-lt-mul_of_pos_right, mul-pos, one-mul, zero-add, zero-mul, mul-one, mul_right_comm, not-le_of_lt, arith, lit<, lit≤, eqb→eq, ltb→lt, lt→ltb, leb→le, T_not, pow_pos, pow-add, le-ltb}
use mathlib.Core.Path.{subst⁻¹}
use native.Mathlib.Nat.{sub_self}
use lib.Ieee.{Float, nan, inf, fin, Format, binary64, up, down, round, sum, add, sub, mul, neg, unlike, below, level, lt, eq, le, is_nan, fits, of_bits, to_bits, to_unsigned, nan_bits, prec, emax, low, size, hid, top}
use lib.Pow.{pow-lt}
use lib.Ieee.Fits.{down_pos, and_l, and_r, round-fits, neg-fits}
use lib.Ieee.Exact.{HasValue, round_exact}
use lib.Ieee.Bits.{of_bits-to_bits, nan_bits_above}
use lib.Ieee.Nearest.{div_same}
use lib.Ieee.Scale.{finite}
use Rattle.real.specs.Reals.{zero64, one64, magnitude}
use Rattle.real.proofs.SignedOrder.{P, N, SLe, sle_at, sle_scale, sum_is, add_opened, mul_by, unlike_false, round_smono, zero_of, to_unsigned_mono, lt→le, here_or_on, sle_of, of_sle}

-- ---- x - x is zero where x is finite, and NaN elsewhere
pub untrue : (b : Bool) → (T b → ⊥) → b ≡ false
untrue true h = absurd (h tt)
untrue false h = refl

ltb_self : (a : ℕ) → ltb a a ≡ false
ltb_self a = untrue (ltb a a) (λ t. lt_irrefl a (ltb→lt a a t))

sum_itself : (f : Format) (s : Bool) (a c : ℕ) → 0 < c → sum f s a (not s) a c ≡ fin false 0 (pos 0)
unfolding sum
sum_itself f true a c C = rw (ltb_self, sub_self) (zero_of f false c C)
sum_itself f false a c C = rw (ltb_self, sub_self) (zero_of f false c C)

-- z tells b: it is a zero if b holds, and NaN if not
pub record Tells (z : Float) (b : Bool) : Type 0 where
  sign : Bool
  is : z ≡ cond b (fin sign 0 (pos 0)) nan

pub zero_tells : Tells zero64 true
unfolding of_bits
zero_tells = record { sign = false; is = refl }

pub less_tells : (x : Float) → Tells (sub binary64 x x) (finite x)
unfolding sub add neg
less_tells nan = record { sign = false; is = refl }
less_tells (inf true) = record { sign = false; is = refl }
less_tells (inf false) = record { sign = false; is = refl }
less_tells (fin s m e) = record { sign = false; is = sum_itself binary64 s (m * up e * down e) (down e * down e) (mul-pos (down_pos e) (down_pos e)) }

-- and so does its product with x tell whether x is finite too
pub times_tells : {z : Float} {b : Bool} (x : Float) → Tells z b → Tells (mul binary64 z x) (b && finite x)
unfolding mul
times_tells {z} {b} x t = subst⁻¹ (λ (y : Float). Tells (mul binary64 y x) (b && finite x)) t.is (go b t.sign x)
  where
    go : (b s : Bool) (x : Float) → Tells (mul binary64 (cond b (fin s 0 (pos 0)) nan) x) (b && finite x)
    go false s x = record { sign = false; is = refl }
    go true s nan = record { sign = false; is = refl }
    go true s (inf t) = record { sign = false; is = refl }
    go true s (fin t n d) = record { sign = unlike s t; is = ap (λ (k : ℕ). round binary64 (unlike s t) k (1 * down d)) (zero-mul (n * up d)) ∙ zero_of binary64 (unlike s t) (1 * down d) (mul-pos (down_pos (pos 0)) (down_pos d)) }

pub told : {z : Float} {b : Bool} → Tells z b → eq z zero64 ≡ b
unfolding eq of_bits
told {z} {b} t = ap (λ (y : Float). eq y zero64) t.is ∙ go b t.sign
  where
    go : (b s : Bool) → eq (cond b (fin s 0 (pos 0)) nan) zero64 ≡ b
    go true true = refl
    go true false = refl
    go false s = refl

-- either zero is at most what the other is
zero_least : (s : Bool) (x : Float) → le (fin s 0 (pos 0)) x ≡ le zero64 x
unfolding le lt eq of_bits
zero_least false x = refl
zero_least true nan = refl
zero_least true (inf t) = refl
zero_least true (fin t n d) = go t (0 * up (pos 0) * down d) (n * up d * down (pos 0)) (zero-mul (down d))
  where
    none_below : (b : ℕ) → ltb b 0 ≡ false
    none_below b = untrue (ltb b 0) (λ h. not-suc-le-zero (ltb→lt b 0 h))

    go : (t : Bool) (a b : ℕ) → a ≡ 0 → (below true a t b || level true a t b) ≡ (below false a t b || level false a t b)
    go false a b e = rw (e, zero-add b) refl
    go true a b e = rw (e, none_below b) refl

-- so that z is at most x where b holds and 0 is at most x
pub at_most_told : {z : Float} {b : Bool} (x : Float) → Tells z b → le z x ≡ (b && le zero64 x)
unfolding le lt eq
at_most_told {z} {b} x t = ap (λ (y : Float). le y x) t.is ∙ go b t.sign
  where
    go : (b s : Bool) → le (cond b (fin s 0 (pos 0)) nan) x ≡ (b && le zero64 x)
    go true s = zero_least s x
    go false s = refl

pub less_itself : (x : Float) → eq (sub binary64 x x) zero64 ≡ finite x
less_itself x = told (less_tells x)

-- ---- zero and one are numbers
pub number_zero : T (not (is_nan zero64))
unfolding is_nan of_bits
number_zero = tt

pub number_one : T (not (is_nan one64))
unfolding is_nan of_bits
number_one = tt

-- ---- the whole part of a number below 2 ^ 32
abbrev pub big64 : Float
big64 = of_bits binary64 0x41F0_0000_0000_0000

pub cut_small : (x : Float) → T (lt x big64) → to_unsigned 64 x ≤ 2 ^ 32
unfolding to_unsigned lt of_bits
cut_small nan h = absurd h
cut_small (inf true) h = lit≤ tt
cut_small (inf false) h = absurd h
cut_small (fin true m e) h = lit≤ tt
cut_small (fin false m e) h = to_unsigned_mono 64 (fin false m e) big64 tt tt (lt→le (fin false m e) big64 h)

-- ---- what a truncation asks of its argument
pub above_minus_one : (x : Float) → T (lt zero64 x) → T (lt (fin true 1 (pos 0)) x)
unfolding lt of_bits
above_minus_one nan h = absurd h
above_minus_one (inf true) h = absurd h
above_minus_one (inf false) h = tt
above_minus_one (fin true m e) h = absurd h
above_minus_one (fin false m e) h = lt→ltb 0 (1 * down e + m * up e * 1) (omega (arith, down_pos e))

pub below_top : (x : Float) → T (lt x big64) → T (lt x (fin false 1 (pos 64)))
unfolding lt of_bits
below_top nan h = absurd h
below_top (inf true) h = tt
below_top (inf false) h = absurd h
below_top (fin true m e) h = lt→ltb 0 (m * up e * 1 + 2 ^ 64 * down e) (omega (arith, down_pos e))
below_top (fin false m e) h = let k = ltb→lt (m * up e * 1) (2 ^ 32 * down e) h in lt→ltb (m * up e * 1) (2 ^ 64 * down e) (omega arith)

-- ---- a fraction that the format holds is rounded to itself

-- what `fits` says of a finite value's parts
pub fits_parts : (f : Format) (s : Bool) (m : ℕ) (e : ℤ) → T (fits f (fin s m e)) → (m < 2 ^ prec f) × (down e ≤ 2 ^ low f) × (m * up e < 2 ^ suc (emax f) * down e)
unfolding fits
fits_parts f s zero e h = (pow_pos (prec f), flat e (eqb→eq (up e * down e) 1 h), subst (λ (z : ℕ). z < 2 ^ suc (emax f) * down e) (sym (zero-mul (up e))) (mul-pos (pow_pos (suc (emax f))) (down_pos e)))
  where
    flat : (d : ℤ) → up d * down d ≡ 1 → down d ≤ 2 ^ low f
    flat (pos k) g = pow_pos (low f)
    flat (negsuc k) g = subst (λ (z : ℕ). z ≤ 2 ^ low f) (sym g ∙ one-mul (2 ^ suc k)) (pow_pos (low f))
fits_parts f s (suc m) e h =
    let A = eqb (suc m % 2) 1 in
    let B = ltb (suc m) (2 ^ prec f) in
    let C = leb (down e) (2 ^ low f) in
    let D = ltb (suc m * up e) (2 ^ suc (emax f) * down e) in (
      ltb→lt (suc m) (2 ^ prec f) (and_r A B (and_l (A && B) C (and_l (A && B && C) D h))),
      leb→le (down e) (2 ^ low f) (and_r (A && B) C (and_l (A && B && C) D h)),
      ltb→lt (suc m * up e) (2 ^ suc (emax f) * down e) (and_r (A && B && C) D h),
    )

-- 2 ^ e in units of the smallest value
pub in_units_lem : (l : ℕ) (e : ℤ) → down e ≤ 2 ^ l → (j : ℕ) × (up e * 2 ^ l ≡ 2 ^ j * down e)
in_units_lem l (pos k) h = (k + l, sym (pow-add 2 k l) ∙ sym (mul-one (2 ^ (k + l))))
in_units_lem l (negsuc k) h = (l - suc k, one-mul (2 ^ l) ∙ ap (λ (z : ℕ). 2 ^ z) (split_at l (suc k) within) ∙ pow-add 2 (l - suc k) (suc k))
  where
    split_at : (a b : ℕ) → b ≤ a → a ≡ a - b + b
    split_at a b q = omega arith

    within : suc k ≤ l
    within = elim (here_or_on l (suc k)) [ inl q ↦ absurd (not-le_of_lt (pow-lt q) h) | inr q ↦ q ]

-- r * 2 ^ e is rounded to itself where r has no more digits than the format keeps
pub round_part : (f : Format) (s : Bool) (r : ℕ) (e : ℤ) → r < 2 ^ prec f → down e ≤ 2 ^ low f → r * up e < 2 ^ suc (emax f) * down e → HasValue (round f s (r * up e) (down e)) s (r * up e) (down e)
round_part f s r e small deep high =
    let u = in_units_lem (low f) e deep in
    let j = u.0 in
    let l = low f in
    let eq : r * up e * 2 ^ l ≡ r * 2 ^ j * down e = mul_assoc r (up e) (2 ^ l) ∙ ap (λ (z : ℕ). r * z) u.1 ∙ sym (mul_assoc r (2 ^ j) (down e)) in
    let b : r * up e * 2 ^ l < 2 ^ suc (emax f) * down e * 2 ^ l = mul-lt-mul_of_pos_right high (pow_pos l) in
    let c : 2 ^ suc (emax f) * down e * 2 ^ l ≡ 2 ^ (l + suc (emax f)) * down e =
    mul_right_comm (2 ^ suc (emax f)) (down e) (2 ^ l) ∙ ap (λ (z : ℕ). z * down e) (mul_comm (2 ^ suc (emax f)) (2 ^ l) ∙ sym (pow-add 2 l (suc (emax f)))) in
    let d : r * 2 ^ j * down e < 2 ^ (l + suc (emax f)) * down e = subst (λ (z : ℕ). z < 2 ^ (l + suc (emax f)) * down e) eq (subst (λ (z : ℕ). r * up e * 2 ^ l < z) c b) in
    round_exact f s (r * up e) (down e) r j (down_pos e) small (lt_of_mul-lt-mul_right (down e) d) eq

-- two values of the format that are the same number are the same value
alike : (f : Format) (s : Bool) (m n : ℕ) (e d : ℤ) → m * up e * down d ≡ n * up d * down e → to_bits f (fin s m e) ≡ to_bits f (fin s n d)
unfolding to_bits
alike f s m n e d h =
    ap (λ (z : ℕ). cond s (top f) 0 + (size z - prec f) * hid f + z / 2 ^ (size z - prec f))
    (div_same (m * up e * 2 ^ low f) (down e) (n * up d * 2 ^ low f) (down d) (down_pos e) (down_pos d)
    (mul_right_comm (m * up e) (2 ^ low f) (down d) ∙ ap (λ (z : ℕ). z * 2 ^ low f) h ∙ mul_right_comm (n * up d) (down e) (2 ^ low f)))

same_value : (f : Format) (s : Bool) (m n : ℕ) (e d : ℤ) → T (fits f (fin s m e)) → T (fits f (fin s n d)) → m * up e * down d ≡ n * up d * down e → fin s m e ≡ fin s n d
same_value f s m n e d p q h = sym (of_bits-to_bits f (fin s m e) p) ∙ ap (λ (z : ℕ). of_bits f z) (alike f s m n e d h) ∙ of_bits-to_bits f (fin s n d) q

pub round_own : (f : Format) (s : Bool) (m : ℕ) (e : ℤ) → T (fits f (fin s m e)) → round f s (m * up e) (down e) ≡ fin s m e
round_own f s m e h =
    let p = fits_parts f s m e h in
    go (round f s (m * up e) (down e)) (round-fits f s (m * up e) (down e)) (round_part f s m e p.0 p.1 p.2)
  where
    go : (x : Float) → T (fits f x) → HasValue x s (m * up e) (down e) → x ≡ fin s m e
    go nan q v = absurd v
    go (inf t) q v = absurd v
    go (fin t n d) q v = ap (λ (u : Bool). fin u n d) v.0 ∙ same_value f s n m d e (subst (λ (u : Bool). T (fits f (fin u n d))) v.0 q) h v.1

-- ---- a neutral operand

-- a number that the format holds, times 1, is that number
pub times_one : (f : Format) (x : Float) → T (fits f x) → mul f x (fin false 1 (pos 0)) ≡ x
times_one f nan h = unfold mul in refl
times_one f (inf s) h = unfold mul in ap inf (unlike_false s)
times_one f (fin s m e) h =
    mul_by f (fin s m e) (fin false 1 (pos 0)) tt tt
    ∙ ap (λ (a : ℕ). round f s a (down e * 1)) (mul-one (m * up e))
    ∙ ap (λ (c : ℕ). round f s (m * up e) c) (mul-one (down e))
    ∙ round_own f s m e h

-- ±a over c is at most ±z over c', the sum of ±a and 0
not_less : (s σ : Bool) (a a' b z c c' : ℕ) → a' ≡ a → b ≡ 0 → c' ≡ c → P σ z + N s a' ≡ N σ z + (P s a' + b) → SLe s (a * c') σ (z * c)
not_less s σ a a' b z c c' i j l h = sle_at s σ (a * c) (a * c') (z * c) (z * c) (ap (λ (k : ℕ). a * k) (sym l)) refl (sle_scale s σ a z c (by s σ h))
  where
    by : (s σ : Bool) → P σ z + N s a' ≡ N σ z + (P s a' + b) → SLe s a σ z
    by true true k = omega (arith, i, j, k)
    by true false k = omega (arith, i, j, k)
    by false true k = omega (arith, i, j, k)
    by false false k = omega (arith, i, j, k)

-- with 0 added it is not less, on either side
pub plus_nought : (f : Format) (x : Float) → T (fits f x) → T (finite x) → T (le x (add f x (fin false 0 (pos 0))))
plus_nought f nan h k = absurd k
plus_nought f (inf s) h k = absurd k
plus_nought f (fin s m e) h k =
    let u = sum_is f s false (m * up e * 1) (0 * down e) (down e * 1) in
    subst (λ (w : Float). T (le w (add f (fin s m e) (fin false 0 (pos 0))))) (round_own f s m e h)
    (subst (λ (w : Float). T (le (round f s (m * up e) (down e)) w)) (sym (add_opened f (fin s m e) (fin false 0 (pos 0)) tt tt ∙ u.2))
    (round_smono f s u.0 (m * up e) (down e) u.1 (down e * 1) (down_pos e) (mul-pos (down_pos e) (lit< tt))
    (not_less s u.0 (m * up e) (m * up e * 1) (0 * down e) u.1 (down e) (down e * 1) (mul-one (m * up e)) (zero-mul (down e)) (mul-one (down e)) (let v = u.3 in omega (arith, v)))))

pub nought_plus : (f : Format) (x : Float) → T (fits f x) → T (finite x) → T (le x (add f (fin false 0 (pos 0)) x))
nought_plus f nan h k = absurd k
nought_plus f (inf s) h k = absurd k
nought_plus f (fin s m e) h k =
    let u = sum_is f false s (0 * down e) (m * up e * 1) (1 * down e) in
    subst (λ (w : Float). T (le w (add f (fin false 0 (pos 0)) (fin s m e)))) (round_own f s m e h)
    (subst (λ (w : Float). T (le (round f s (m * up e) (down e)) w)) (sym (add_opened f (fin false 0 (pos 0)) (fin s m e) tt tt ∙ u.2))
    (round_smono f s u.0 (m * up e) (down e) u.1 (1 * down e) (down_pos e) (mul-pos (lit< tt) (down_pos e))
    (not_less s u.0 (m * up e) (m * up e * 1) (0 * down e) u.1 (down e) (1 * down e) (mul-one (m * up e)) (zero-mul (down e)) (one-mul (down e)) (let v = u.3 in omega (arith, v)))))

-- ---- the size of a value

-- 0 - x for x at most 0
pub size_below : (x : Float) → T (fits binary64 x) → T (le x zero64) → sub binary64 zero64 x ≡ magnitude x
unfolding sub add neg sum le magnitude of_bits
size_below nan p h = absurd h
size_below (inf true) p h = refl
size_below (inf false) p h = absurd h
size_below (fin true m e) p h =
    let a : 0 * down e + m * up e * 1 ≡ m * up e = omega (arith, zero-mul (down e)) in
    ap (λ (z : ℕ). round binary64 false z (1 * down e)) a
    ∙ ap (λ (z : ℕ). round binary64 false (m * up e) z) (one-mul (down e))
    ∙ round_own binary64 false m e (neg-fits binary64 (fin true m e) p)
size_below (fin false m e) p h =
    let k = sle_of false false (m * up e * 1) (0 * down e) h in
    let z : m * up e * 1 ≡ 0 * down e = omega (arith, zero-mul (down e)) in
    let i : fin false m e ≡ fin false 0 (pos 0) = same_value binary64 false m 0 e (pos 0) p (unfold fits in tt) z in
    ap (λ (x : Float). sub binary64 zero64 x) i ∙ sym i

-- x itself elsewhere
pub size_above : (x : Float) → T (not (le x zero64)) → x ≡ magnitude x
unfolding le magnitude of_bits
size_above nan h = refl
size_above (inf true) h = absurd h
size_above (inf false) h = refl
size_above (fin true m e) h = absurd (T_not (le (fin true m e) zero64) h (of_sle true false (m * up e * 1) (0 * down e) (omega arith)))
size_above (fin false m e) h = refl

-- ---- a bit pattern whose exponent's field is not all ones is a number's
pub no_nan : (b : ℕ) → b < 2047 * 2 ^ 52 → T (not (nan_bits binary64 b))
no_nan b h = rw (nan_bits_above binary64 b, le-ltb (2047 * 2 ^ 52) (b % 2 ^ 63) (omega arith)) tt
