-- The square root keeps the order of the numbers from 0 up, infinity included, and of two binary64 there that are at most one another there is one. Assumes nothing.
use mathlib.Core.Path.{◌≡◌, refl, sym, ap, ◌∙◌, subst}
use mathlib.Core.Bool.{Bool, true, false, not, ◌&&◌, cond}
use Prim.Native.Nat.{ℕ, ◌+◌, ◌-◌, ◌*◌, ◌/◌, ◌^◌, ◌≤◌, ◌<◌}
use native.Mathlib.Nat.{mul_comm, mul_assoc, mul_right_comm, mul-one, zero-mul, mul-pos, mul-lt-mul_of_pos_right, mul-le-mul_left, lt_of_lt_of_le, lt_of_le_of_lt, lt_irrefl, le_of_eq, le_antisymm}
use native.Mathlib.Omega.{arith}
use lib.IntN.{ℤ, pos}
use lib.Dec.{T, T_not, ltb→lt, lt→ltb}
use lib.Ieee.{Float, nan, inf, fin, binary64, up, down, size, neg, lt, le, of_bits, to_bits, fits, is_nan}
use lib.Ieee.Bits.{of_bits-to_bits, is_true, is_false}
use lib.Ieee.Fits.{up_pos, down_pos, and_l, and_r}
use lib.Ieee.Nearest.{div_same}
use lib.Ieee.Positive.{num, den, den_pos, positive, positive-finite}
use Rattle.real.specs.Reals.{zero64, inf64}
use Rattle.real.proofs.Cases.{by_truth}
use Rattle.real.proofs.Values.{untrue}
use Rattle.real.proofs.SignedOrder.{nonneg, units_nonneg, nat_above, le_tr, le→sle, nlt→le, apart, lt_of_not_le}
use Rattle.root.specs.Root.{root, root_units, nearest_root, in_units}
use Rattle.root.specs.Nearest.{unsigned, NearestRoot}
use Rattle.root.proofs.Nearest.{root_nearest, not_below, sum_num, middle_low, middle_high, positive_unsigned, above_unsigned}

-- ---- numbers from 0 up
pub nonneg_number : (x : Float) → T (nonneg x) → T (not (is_nan x)) × T (not (is_nan (neg x)))
unfolding is_nan neg
nonneg_number nan p = absurd p
nonneg_number (inf s) p = (tt, tt)
nonneg_number (fin s m e) p = (tt, tt)

root_units_nonneg : (n : ℕ) → T (nonneg (root_units n))
unfolding root_units
root_units_nonneg n = let h = (size n + 1) / 2 in units_nonneg binary64 (nearest_root (n * 2 ^ 106 / 4 ^ h)) (h + 484)

pub root_nonneg : (x : Float) → T (nonneg x) → T (nonneg (root x))
unfolding root of_bits
root_nonneg x p =
    subst (λ (b : Bool). T (nonneg (cond b nan (cond (lt (fin false 0 (pos 0)) x && lt x inf64) (root_units (in_units x)) x)))) (sym (not_below x p))
    (go (lt (fin false 0 (pos 0)) x && lt x inf64))
  where
    go : (b : Bool) → T (nonneg (cond b (root_units (in_units x)) x))
    go true = root_units_nonneg (in_units x)
    go false = p

pub nonneg_above : (x : Float) → T (nonneg x) → T (le (fin false 0 (pos 0)) x)
nonneg_above nan p = absurd p
nonneg_above (inf true) p = absurd p
nonneg_above (inf false) p = unfold le in tt
nonneg_above (fin true m e) p = absurd p
nonneg_above (fin false m e) p = nat_above (fin false m e) tt

not_above_infinity : (x : Float) → T (not (lt inf64 x))
unfolding lt
not_above_infinity nan = tt
not_above_infinity (inf true) = tt
not_above_infinity (inf false) = tt
not_above_infinity (fin s m e) = tt

le_infinity : (x : Float) → T (nonneg x) → T (le x inf64)
unfolding is_nan
le_infinity x p = nlt→le inf64 x tt (nonneg_number x p).0 (not_above_infinity x)

-- ---- the root of a number that is not above zero, or not below infinity, is itself
pub root_ends : (x : Float) → T (nonneg x) → (lt zero64 x && lt x inf64) ≡ false → root x ≡ x
unfolding root of_bits
root_ends x p e = rw (not_below x p, e)

pub and_false : (a b : Bool) → T (not a) → (a && b) ≡ false
and_false false b h = refl
and_false true b h = absurd h

and_false_r : (a b : Bool) → T (not b) → (a && b) ≡ false
and_false_r true b h = untrue b (λ t. T_not b h t)
and_false_r false b h = refl

-- ---- order between
-- with the middle m of both roots, T / D its square four times: x above it and y below it, and yet x at most y
clash : (t u a b c d : ℕ) → 0 < b → 0 < d → t * b < 4 * a * u → 4 * c * u < t * d → a * d ≤ c * b → ⊥
clash t u a b c d B D h k l =
    let one : t * b * d < 4 * a * u * d = mul-lt-mul_of_pos_right h D in
    let two : 4 * c * u * b < t * d * b = mul-lt-mul_of_pos_right k B in
    let three : 4 * u * (a * d) ≤ 4 * u * (c * b) = mul-le-mul_left (4 * u) l in
    let e1 : 4 * a * u * d ≡ 4 * u * (a * d) = simp (mul_assoc, mul_comm) in
    let e2 : 4 * c * u * b ≡ 4 * u * (c * b) = simp (mul_assoc, mul_comm) in
    let e3 : t * d * b ≡ t * b * d = mul_right_comm t d b in
    lt_irrefl (t * b * d) (omega arith)

cross : (x y : Float) → T (unsigned x) → T (unsigned y) → T (le x y) → num x * den y ≤ num y * den x
cross nan y p q h = absurd p
cross (inf s) y p q h = absurd p
cross (fin true m e) y p q h = absurd p
cross (fin false m e) nan p q h = absurd q
cross (fin false m e) (inf s) p q h = absurd q
cross (fin false m e) (fin true n d) p q h = absurd q
cross (fin false m e) (fin false n d) p q h = let k = le→sle (fin false m e) (fin false n d) tt tt h in omega arith

module _ (x y : Float) (fx : T (fits binary64 x)) (fy : T (fits binary64 y)) where
  -- both above zero and below infinity
  order_within : T (lt zero64 x) → T (lt x inf64) → T (lt zero64 y) → T (lt y inf64) → T (le x y) → T (le (root x) (root y))
  order_within a b c d l = by_truth (le (root x) (root y)) (λ t. t) (λ f. absurd (go f))
    where
      one : NearestRoot x (root x)
      one = root_nearest x fx a b

      two : NearestRoot y (root y)
      two = root_nearest y fy c d

      go : T (not (le (root x) (root y))) → ⊥
      go f =
          let r = root x in
          let q = root y in
          let less : T (lt q r) = lt_of_not_le q r (positive-finite q two.is_positive) (positive-finite r one.is_positive) (T_not (le r q) f) in
          let R = positive_unsigned r one.is_positive in
          let Q = positive_unsigned q two.is_positive in
          let X = above_unsigned x (is_true (lt zero64 x) a) (is_true (lt x inf64) b) in
          let Y = above_unsigned y (is_true (lt zero64 y) c) (is_true (lt y inf64) d) in
          let low = middle_low r q x R Q X (one.below q two.held Q less) in
          let high = middle_high q r y Q R Y (two.above r one.held R less) in
          let turned : sum_num q r ≡ sum_num r q = omega arith in
          let scaled : den q * den r ≡ den r * den q = mul_comm (den q) (den r) in
          clash (sum_num r q * sum_num r q) (den r * den q * (den r * den q)) (num x) (den x) (num y) (den y) (den_pos x) (den_pos y) low
          (subst (λ (z : ℕ). 4 * num y * (z * z) < sum_num r q * sum_num r q * den y) scaled (subst (λ (z : ℕ). 4 * num y * (den q * den r * (den q * den r)) < z * z * den y) turned high))
          (cross x y X Y l)

  -- the root keeps order
  pub root_order : T (nonneg x) → T (nonneg y) → T (le x y) → T (le (root x) (root y))
  unfolding of_bits is_nan
  root_order p q l = by_truth (lt zero64 x) (λ a. by_truth (lt y inf64) (λ d. inside a d) high) low
    where
      low : T (not (lt zero64 x)) → T (le (root x) (root y))
      low f =
          rw (root_ends x p (and_false (lt zero64 x) (lt x inf64) f))
          (le_tr x zero64 (root y) (nlt→le zero64 x tt (nonneg_number x p).0 f) (nonneg_above (root y) (root_nonneg y q)))

      high : T (not (lt y inf64)) → T (le (root x) (root y))
      high f =
          rw (root_ends y q (and_false_r (lt zero64 y) (lt y inf64) f))
          (le_tr (root x) inf64 y (le_infinity (root x) (root_nonneg x p)) (nlt→le y inf64 (nonneg_number y q).0 tt f))

      inside : T (lt zero64 x) → T (lt y inf64) → T (le (root x) (root y))
      inside a d =
          by_truth (lt x inf64)
          (λ b. by_truth (lt zero64 y) (λ c. order_within a b c d l) (λ f. absurd (apart zero64 x a (le_tr x y zero64 l (nlt→le zero64 y tt (nonneg_number y q).0 f)))))
          (λ f. absurd (apart y inf64 d (le_tr inf64 x y (nlt→le x inf64 (nonneg_number x p).0 tt f) l)))

-- ---- the root of a binary64 is one, and that of a number above zero is above zero
pub root_fits : (x : Float) → T (fits binary64 x) → T (nonneg x) → T (fits binary64 (root x))
root_fits x f p = by_truth (lt zero64 x && lt x inf64) (λ t. (root_nearest x f (and_l (lt zero64 x) (lt x inf64) t) (and_r (lt zero64 x) (lt x inf64) t)).held) (λ t. rw (root_ends x p (is_false (lt zero64 x && lt x inf64) t)) f)

above_none : (x : Float) → T (positive x) → T (lt zero64 x)
unfolding lt of_bits
above_none nan p = absurd p
above_none (inf s) p = absurd p
above_none (fin true m e) p = absurd p
above_none (fin false m e) p =
    lt→ltb (0 * down e) (m * up e * 1)
    (lt_of_le_of_lt (le_of_eq (zero-mul (down e))) (lt_of_lt_of_le (mul-pos (ltb→lt 0 m p) (up_pos e)) (le_of_eq (sym (mul-one (m * up e))))))

pub root_above : (x : Float) → T (fits binary64 x) → T (lt zero64 x) → T (lt x inf64) → T (lt zero64 (root x))
root_above x f p q = above_none (root x) (root_nearest x f p q).is_positive

-- ---- two binary64 from 0 up that are at most one another are one
same_units : (m n : ℕ) (e d : ℤ) → m * up e * down d ≡ n * up d * down e → m * up e * 2 ^ 1074 / down e ≡ n * up d * 2 ^ 1074 / down d
same_units m n e d h =
    div_same (m * up e * 2 ^ 1074) (down e) (n * up d * 2 ^ 1074) (down d) (down_pos e) (down_pos d)
    (mul_right_comm (m * up e) (2 ^ 1074) (down d) ∙ ap (λ (z : ℕ). z * 2 ^ 1074) h ∙ mul_right_comm (n * up d) (down e) (2 ^ 1074))

same_bits : (m n : ℕ) (e d : ℤ) → m * up e * down d ≡ n * up d * down e → to_bits binary64 (fin false m e) ≡ to_bits binary64 (fin false n d)
unfolding to_bits
same_bits m n e d h = ap (λ (w : ℕ). 0 + (size w - 53) * 2 ^ 52 + w / 2 ^ (size w - 53)) (same_units m n e d h)

pub one_only : (x y : Float) → T (fits binary64 x) → T (fits binary64 y) → T (nonneg x) → T (nonneg y) → T (le x y) → T (le y x) → x ≡ y
unfolding le
one_only nan y f g p q h k = absurd p
one_only (inf true) y f g p q h k = absurd p
one_only (inf false) nan f g p q h k = absurd q
one_only (inf false) (inf true) f g p q h k = absurd q
one_only (inf false) (inf false) f g p q h k = refl
one_only (inf false) (fin t n d) f g p q h k = absurd h
one_only (fin true m e) y f g p q h k = absurd p
one_only (fin false m e) nan f g p q h k = absurd q
one_only (fin false m e) (inf true) f g p q h k = absurd q
one_only (fin false m e) (inf false) f g p q h k = absurd k
one_only (fin false m e) (fin true n d) f g p q h k = absurd q
one_only (fin false m e) (fin false n d) f g p q h k =
    let x = fin false m e in
    let y = fin false n d in
    sym (of_bits-to_bits binary64 x f)
    ∙ ap (of_bits binary64) (same_bits m n e d (le_antisymm (cross x y tt tt h) (cross y x tt tt k)))
    ∙ of_bits-to_bits binary64 y g

-- ---- the root goes by the value: two numbers above zero that are at most one another have one root
root_inside : (x : Float) → T (nonneg x) → T (lt zero64 x) → T (lt x inf64) → root x ≡ root_units (in_units x)
unfolding root of_bits
root_inside x p a b = rw (not_below x p, is_true (lt zero64 x) a, is_true (lt x inf64) b)

pub root_level : (x y : Float) → T (nonneg x) → T (nonneg y) → T (lt zero64 x) → T (lt zero64 y) → T (le x y) → T (le y x) → root x ≡ root y
unfolding le lt in_units
root_level nan y p q a b h k = absurd p
root_level (inf true) y p q a b h k = absurd p
root_level (inf false) nan p q a b h k = absurd q
root_level (inf false) (inf true) p q a b h k = absurd q
root_level (inf false) (inf false) p q a b h k = refl
root_level (inf false) (fin t n d) p q a b h k = absurd h
root_level (fin true m e) y p q a b h k = absurd p
root_level (fin false m e) nan p q a b h k = absurd q
root_level (fin false m e) (inf true) p q a b h k = absurd q
root_level (fin false m e) (inf false) p q a b h k = absurd k
root_level (fin false m e) (fin true n d) p q a b h k = absurd q
root_level (fin false m e) (fin false n d) p q a b h k =
    let x = fin false m e in
    let y = fin false n d in
    root_inside x tt a tt ∙ ap root_units (same_units m n e d (le_antisymm (cross x y tt tt h) (cross y x tt tt k))) ∙ sym (root_inside y tt b tt)

-- the root is above zero exactly where its number is
pub above_root : (x : Float) → T (fits binary64 x) → T (nonneg x) → lt zero64 (root x) ≡ lt zero64 x
above_root x f p =
    by_truth (lt zero64 x && lt x inf64)
    (λ t.
    let a = and_l (lt zero64 x) (lt x inf64) t in
    is_true (lt zero64 (root x)) (root_above x f a (and_r (lt zero64 x) (lt x inf64) t)) ∙ sym (is_true (lt zero64 x) a))
    (λ t. ap (lt zero64) (root_ends x p (is_false (lt zero64 x && lt x inf64) t)))
