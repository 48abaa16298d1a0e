-- IEEE 754, squareRoot, round to nearest, ties to even: the root of a positive finite binary64 is a binary64, and every other binary64 lies farther from the exact root. So no tie occurs. The other numbers' roots at the end. Assumes nothing.
use mathlib.Core.Path.{◌≡◌, refl, sym, ap, ◌∙◌, subst}
use mathlib.Core.Bool.{Bool, true, false, ◌&&◌}
use Prim.Native.Nat.{ℕ, zero, suc, ◌+◌, ◌-◌, ◌*◌, ◌/◌, ◌%◌, ◌^◌, ◌≤◌, ◌<◌, zero-le}
use native.Mathlib.Nat.{mul_assoc, mul_comm, mul_left_comm, mul-one, one-mul, zero-mul, add-mul, mul_right_comm, mul-mul-mul_comm, mul-pos, mul-le-mul, mul-le-mul_right, mul-le-mul_left, mul-lt-mul_of_pos_left, mul-lt-mul_of_pos_right, lt_of_mul-lt-mul_right, lt_of_lt_of_le, lt_of_le_of_lt, lt_of_not-le, not-le_of_lt, le_trans, le_of_eq, le_of_lt, mul-add, mul-div_cancel, not-suc-le-zero}
use native.Mathlib.Decide.{dec_le}
use native.Mathlib.Omega.{arith}
use lib.Dec.{T, leb, ltb, eqb, leb→le, ltb→lt, lt→ltb}
use lib.Count.{count_leading_zeros}
use lib.IntN.{pos, negsuc}
use lib.Pow.{pow-add, pow_pos, pow_mono, pow-lt, shl_lt}
use lib.Ieee.{Float, nan, inf, fin, binary64, up, down, lt, le, size, units, of_bits, to_bits, fits}
use lib.Ieee.Digits.{back}
use lib.Ieee.Exact.{HasValue, units_val}
use lib.Ieee.Order.{le_of_values}
use lib.Ieee.Fits.{down_pos, and_l, and_r}
use lib.Ieee.Bits.{of_bits-fits, is_true}
use lib.Ieee.Positive.{num, den, den_pos, positive, positive_of_value, value→cross}
use borrow.Author.Tests.{eq-eqb, ne_eqb}
use Rattle.real.specs.Reals.{zero64, inf64, least_normal}
use Rattle.real.specs.Fractions.{fraction, fraction_of, fraction_less}
use Rattle.real.proofs.Values.{untrue}
use Rattle.real.proofs.SignedOrder.{nonneg}
use Rattle.root.specs.Root.{root, root_units, in_units, nearest_root}
use Rattle.root.specs.Parts.{units_of_bits}
use Rattle.root.specs.Nearest.{unsigned, sum_squared, fourfold, NearestRoot}
use Rattle.root.proofs.Powers.{PartedUnits, four_pow, subnormal, parted, normal_size, normal_value, by_length}
use Rattle.root.proofs.Squares.{Close, nearest_close, nearest_bounds}
use Rattle.root.proofs.Patterns.{pattern, assembled, the_root_units}

-- ---- small laws
pow_back : (i j : ℕ) → 2 ^ i < 2 ^ j → i < j
pow_back i j h = go (dec_le j i)
  where
    go : Dec (j ≤ i) → i < j
    go (yes l) = absurd (not-le_of_lt h (pow_mono l))
    go (no f) = lt_of_not-le f

square_lt : (a b : ℕ) → a < b → a * a < b * b
square_lt a b h = lt_of_le_of_lt (mul-le-mul_right a (le_of_lt h)) (mul-lt-mul_of_pos_left h (lt_of_le_of_lt zero-le h))

square_next : (r : ℕ) → (r + 1) * (r + 1) ≡ r * r + 2 * r + 1
square_next r = add-mul r 1 (r + 1) ∙ omega (arith, mul-add r r 1)

square_twice : (r : ℕ) → 2 * r * (2 * r) ≡ 4 * (r * r)
square_twice r = simp (mul_assoc, mul_comm, mul_left_comm) (omega arith)

-- ---- a binary64 from 0 up is a whole number of units, of 53 digits and then zeros
record Whole (y : Float) : Type 0 where
  digits : ℕ
  zeros : ℕ
  short : digits < 2 ^ 53
  value : HasValue y false (digits * 2 ^ zeros) (2 ^ 1074)

module _ (l m : ℕ) where
  up_value : (j : ℕ) → m * 2 ^ j * 2 ^ l ≡ m * 2 ^ (j + l) * 1
  up_value j = mul_assoc m (2 ^ j) (2 ^ l) ∙ ap (λ (z : ℕ). m * z) (sym (pow-add 2 j l)) ∙ sym (mul-one (m * 2 ^ (j + l)))

  down_value : (j : ℕ) → j ≤ l → m * 1 * 2 ^ l ≡ m * 2 ^ (l - j) * 2 ^ j
  down_value j h =
      ap (λ (z : ℕ). z * 2 ^ l) (mul-one m)
      ∙ ap (λ (z : ℕ). m * z) (ap (λ (z : ℕ). 2 ^ z) (sym (back l j h)) ∙ pow-add 2 (l - j) j)
      ∙ sym (mul_assoc m (2 ^ (l - j)) (2 ^ j))

  no_more : (j : ℕ) → 2 ^ j ≤ 2 ^ l → j ≤ l
  no_more j h = go (dec_le j l)
    where
      go : Dec (j ≤ l) → j ≤ l
      go (yes k) = k
      go (no f) = absurd (not-le_of_lt (pow-lt (lt_of_not-le f)) h)

whole : (y : Float) → T (fits binary64 y) → T (unsigned y) → Whole y
unfolding fits
whole nan h p = absurd p
whole (inf s) h p = absurd p
whole (fin true m e) h p = absurd p
whole (fin false zero e) h p = record { digits = 0; zeros = 0; short = pow_pos 53; value = (refl, nothing (up e) (2 ^ 1074) (down e)) }
  where
    nothing : (a b c : ℕ) → 0 * a * b ≡ 0 * 1 * c
    nothing a b c = simp zero-mul
whole (fin false (suc m) (pos j)) h p =
    let f = and_l (eqb (suc m % 2) 1 && ltb (suc m) (2 ^ 53) && leb 1 (2 ^ 1074)) (ltb (suc m * 2 ^ j) (2 ^ 1024 * 1)) h in
    let g = and_r (eqb (suc m % 2) 1) (ltb (suc m) (2 ^ 53)) (and_l (eqb (suc m % 2) 1 && ltb (suc m) (2 ^ 53)) (leb 1 (2 ^ 1074)) f) in
    record { digits = suc m; zeros = j + 1074; short = ltb→lt (suc m) (2 ^ 53) g; value = (refl, up_value 1074 (suc m) j) }
whole (fin false (suc m) (negsuc j)) h p =
    let f = and_l (eqb (suc m % 2) 1 && ltb (suc m) (2 ^ 53) && leb (2 ^ suc j) (2 ^ 1074)) (ltb (suc m * 1) (2 ^ 1024 * 2 ^ suc j)) h in
    let g = and_r (eqb (suc m % 2) 1) (ltb (suc m) (2 ^ 53)) (and_l (eqb (suc m % 2) 1 && ltb (suc m) (2 ^ 53)) (leb (2 ^ suc j) (2 ^ 1074)) f) in
    let l = no_more 1074 (suc m) (suc j) (leb→le (2 ^ suc j) (2 ^ 1074) (and_r (eqb (suc m % 2) 1 && ltb (suc m) (2 ^ 53)) (leb (2 ^ suc j) (2 ^ 1074)) f)) in
    record { digits = suc m; zeros = 1074 - suc j; short = ltb→lt (suc m) (2 ^ 53) g; value = (refl, down_value 1074 (suc m) (suc j) l) }

-- ---- the root q * 2 ^ k against another number p * 2 ^ t, in units
module _ (q k m : ℕ) (low : 2 ^ 52 ≤ q) (large : 2 ^ 104 ≤ m) (c : Close m q) where
  square_of : (w : ℕ) → w * 2 ^ k * (w * 2 ^ k) ≡ w * w * (2 ^ k * 2 ^ k)
  square_of w = mul-mul-mul_comm w (2 ^ k) w (2 ^ k)

  lowest : 2 ^ (52 + k) ≤ q * 2 ^ k
  lowest = le_trans (le_of_eq (pow-add 2 52 k)) (mul-le-mul_right (2 ^ k) low)

  both_pos : 0 < 2 ^ k * 2 ^ k
  both_pos = mul-pos (pow_pos k) (pow_pos k)

  module _ (p t : ℕ) (short : p < 2 ^ 53) where
    -- from 2 ^ (52 + k) on, numbers of 53 digits are multiples of 2 ^ k
    aligned : 2 ^ (52 + k) ≤ p * 2 ^ t → p * 2 ^ t ≡ p * 2 ^ (t - k) * 2 ^ k
    aligned h =
        let l = pow_back (52 + k) (53 + t) (lt_of_le_of_lt h (shl_lt 53 t short)) in
        ap (λ (z : ℕ). p * z) (ap (λ (z : ℕ). 2 ^ z) (sym (back t k (omega arith))) ∙ pow-add 2 (t - k) k) ∙ sym (mul_assoc p (2 ^ (t - k)) (2 ^ k))

    higher : q * 2 ^ k < p * 2 ^ t → 4 * m * (2 ^ k * 2 ^ k) < (q * 2 ^ k + p * 2 ^ t) * (q * 2 ^ k + p * 2 ^ t)
    higher h =
        let w = p * 2 ^ (t - k) in
        let e = aligned (le_trans lowest (le_of_lt h)) in
        let l : q < w = lt_of_mul-lt-mul_right (2 ^ k) (subst (λ (z : ℕ). q * 2 ^ k < z) e h) in
        let s : q * 2 ^ k + p * 2 ^ t ≡ (q + w) * 2 ^ k = ap (λ (z : ℕ). q * 2 ^ k + z) e ∙ sym (add-mul q w (2 ^ k)) in
        let n : 2 * q + 1 ≤ q + w = omega arith in
        rw (s, square_of (q + w)) (lt_of_lt_of_le (mul-lt-mul_of_pos_right c.below both_pos) (mul-le-mul_right (2 ^ k * 2 ^ k) (mul-le-mul n n)))

    -- q and a smaller number of 53 digits
    less : (j w : ℕ) → q ≡ j + 1 → w < q → (q + w) * (q + w) < 4 * m
    less j w e l =
        let n : q + w ≤ 2 * j + 1 = omega arith in
        let s : q * q ≡ j * j + 2 * j + 1 = ap (λ (z : ℕ). z * z) e ∙ square_next j in
        let u : (2 * j + 1) * (2 * j + 1) < 4 * m = omega (arith, square_next (2 * j), square_twice j, c.above) in
        lt_of_le_of_lt (mul-le-mul n n) u

    at_least : (q + 2 ^ 52) * (q + 2 ^ 52) ≤ 4 * m
    at_least = go (dec_le q (2 ^ 52))
      where
        go : Dec (q ≤ 2 ^ 52) → (q + 2 ^ 52) * (q + 2 ^ 52) ≤ 4 * m
        go (yes l) = let e : q ≡ 2 ^ 52 = omega arith in rw e (omega arith)
        go (no f) = le_of_lt (less (q - 1) (2 ^ 52) (omega arith) (lt_of_not-le f))

    lower : p * 2 ^ t < q * 2 ^ k → (q * 2 ^ k + p * 2 ^ t) * (q * 2 ^ k + p * 2 ^ t) < 4 * m * (2 ^ k * 2 ^ k)
    lower h = go (dec_le (2 ^ (52 + k)) (p * 2 ^ t))
      where
        go : Dec (2 ^ (52 + k) ≤ p * 2 ^ t) → (q * 2 ^ k + p * 2 ^ t) * (q * 2 ^ k + p * 2 ^ t) < 4 * m * (2 ^ k * 2 ^ k)
        go (yes y) =
            let w = p * 2 ^ (t - k) in
            let e = aligned y in
            let l : w < q = lt_of_mul-lt-mul_right (2 ^ k) (subst (λ (z : ℕ). z < q * 2 ^ k) e h) in
            let s : q * 2 ^ k + p * 2 ^ t ≡ (q + w) * 2 ^ k = ap (λ (z : ℕ). q * 2 ^ k + z) e ∙ sym (add-mul q w (2 ^ k)) in
            rw (s, square_of (q + w)) (mul-lt-mul_of_pos_right (less (q - 1) w (omega arith) l) both_pos)
        go (no f) =
            let l : p * 2 ^ t < 2 ^ 52 * 2 ^ k = lt_of_lt_of_le (lt_of_not-le f) (le_of_eq (pow-add 2 52 k)) in
            let s : q * 2 ^ k + p * 2 ^ t < (q + 2 ^ 52) * 2 ^ k = omega (arith, add-mul q (2 ^ 52) (2 ^ k)) in
            lt_of_lt_of_le (square_lt (q * 2 ^ k + p * 2 ^ t) ((q + 2 ^ 52) * 2 ^ k) s)
            (le_trans (le_of_eq (square_of (q + 2 ^ 52))) (mul-le-mul_right (2 ^ k * 2 ^ k) at_least))

-- ---- from units to fractions: a / p, b / q and c / s are n, k and w units of 1 / U
module _ (a p b q n k U : ℕ) (A : a * U ≡ n * p) (B : b * U ≡ k * q) where
  first : a * q * U ≡ n * (p * q)
  first = mul_right_comm a q U ∙ ap (λ (z : ℕ). z * q) A ∙ mul_assoc n p q

  second : b * p * U ≡ k * (p * q)
  second = mul_right_comm b p U ∙ ap (λ (z : ℕ). z * p) B ∙ mul_assoc k q p ∙ ap (λ (z : ℕ). k * z) (mul_comm q p)

  less_units : 0 < U → a * q < b * p → n < k
  less_units u h = lt_of_mul-lt-mul_right (p * q) (subst (λ (z : ℕ). z < k * (p * q)) first (subst (λ (z : ℕ). a * q * U < z) second (mul-lt-mul_of_pos_right h u)))

  more_units : 0 < U → b * p < a * q → k < n
  more_units u h = lt_of_mul-lt-mul_right (p * q) (subst (λ (z : ℕ). z < n * (p * q)) second (subst (λ (z : ℕ). b * p * U < z) first (mul-lt-mul_of_pos_right h u)))

  sum_units : (a * q + b * p) * U ≡ (n + k) * (p * q)
  sum_units = add-mul (a * q) (b * p) U ∙ rw (first, second) (sym (add-mul n k (p * q)))

  module _ (c s w : ℕ) (C : c * U ≡ w * s) where
    square_units : (a * q + b * p) * (a * q + b * p) * s * (U * U) ≡ (n + k) * (n + k) * (p * q * (p * q) * s)
    square_units = spread (a * q + b * p) s U ∙ rw sum_units (gather (n + k) (p * q) s)
      where
        spread : (x y z : ℕ) → x * x * y * (z * z) ≡ x * z * (x * z) * y
        spread x y z = simp (mul_assoc, mul_comm, mul_left_comm)

        gather : (x y z : ℕ) → x * y * (x * y) * z ≡ x * x * (y * y * z)
        gather x y z = simp (mul_assoc, mul_comm, mul_left_comm)

    four_units : 4 * c * (p * q * (p * q)) * (U * U) ≡ 4 * (w * U) * (p * q * (p * q) * s)
    four_units = spread c (p * q) U ∙ rw C (gather w s (p * q) U)
      where
        spread : (x y z : ℕ) → 4 * x * (y * y) * (z * z) ≡ x * z * (4 * z * (y * y))
        spread x y z = simp (mul_assoc, mul_comm, mul_left_comm)

        gather : (x v y z : ℕ) → x * v * (4 * z * (y * y)) ≡ 4 * (x * z) * (y * y * v)
        gather x v y z = simp (mul_assoc, mul_comm, mul_left_comm)

    to_fractions : 0 < p → 0 < q → 0 < s → (n + k) * (n + k) < 4 * (w * U) → (a * q + b * p) * (a * q + b * p) * s < 4 * c * (p * q * (p * q))
    to_fractions P Q S h =
        lt_of_mul-lt-mul_right (U * U)
        (subst (λ (z : ℕ). z < 4 * c * (p * q * (p * q)) * (U * U)) (sym square_units)
        (subst (λ (z : ℕ). (n + k) * (n + k) * (p * q * (p * q) * s) < z) (sym four_units)
        (mul-lt-mul_of_pos_right h (mul-pos (mul-pos (mul-pos P Q) (mul-pos P Q)) S))))

    from_fractions : 0 < p → 0 < q → 0 < s → 4 * (w * U) < (n + k) * (n + k) → 4 * c * (p * q * (p * q)) < (a * q + b * p) * (a * q + b * p) * s
    from_fractions P Q S h =
        lt_of_mul-lt-mul_right (U * U)
        (subst (λ (z : ℕ). 4 * c * (p * q * (p * q)) * (U * U) < z) (sym square_units)
        (subst (λ (z : ℕ). z < (n + k) * (n + k) * (p * q * (p * q) * s)) (sym four_units)
        (mul-lt-mul_of_pos_right h (mul-pos (mul-pos (mul-pos P Q) (mul-pos P Q)) S))))

-- ---- the parts of the units of a positive finite binary64
record Parts (n : ℕ) : Type 0 where
  a : ℕ
  h : ℕ
  parts : PartedUnits n a h

parts_of : (n sig len : ℕ) → size n ≡ len → len < 2099 → n * 2 ^ 106 ≡ sig * 2 ^ (len + 53) → 2 ^ 52 ≤ sig → sig < 2 ^ 53 → Parts n
parts_of n sig len e l v lo hi = record { a = sig * (2 - len % 2); h = (len + 1) / 2; parts = parted n e v (by_length sig len l lo hi) }

parts_of_bits : (b : ℕ) → 0 < b → b < 2047 * 2 ^ 52 → Parts (units_of_bits b)
unfolding units_of_bits
parts_of_bits b p l = go (dec_le 1 (b / 2 ^ 52))
  where
    go : Dec (1 ≤ b / 2 ^ 52) → Parts (units_of_bits b)
    go (yes y) =
        let sig = 2 ^ 52 + b % 2 ^ 52 in
        let x = b / 2 ^ 52 in
        rw (ne_eqb x 0 (omega arith))
        (parts_of (sig * 2 ^ (x - 1)) sig (x + 52) (normal_size sig x (omega arith) (omega arith) (omega arith)) (omega arith) (normal_value sig x (omega arith)) (omega arith) (omega arith))
    go (no f) =
        let z = count_leading_zeros 64 b in
        let s = subnormal b p (omega arith) in
        rw (eq-eqb (b / 2 ^ 52) 0 (omega arith)) (parts_of b ((b * 2 ^ (z - 11)) % 2 ^ 64) (64 - z) s.long (omega arith) s.value s.low s.high)

-- n units are m * 4 ^ k, by the units' square
root_scale : (n m h : ℕ) → n * 2 ^ 106 ≡ m * 4 ^ h → n * 2 ^ 1074 ≡ m * (2 ^ (h + 484) * 2 ^ (h + 484))
root_scale n m h e =
    let k = h + 484 in
    ap (λ (z : ℕ). n * z) (pow-add 2 106 968)
    ∙ sym (mul_assoc n (2 ^ 106) (2 ^ 968))
    ∙ ap (λ (z : ℕ). z * 2 ^ 968) e
    ∙ mul_assoc m (4 ^ h) (2 ^ 968)
    ∙ ap (λ (z : ℕ). m * (4 ^ h * z)) (sym (four_pow 484))
    ∙ ap (λ (z : ℕ). m * z) (sym (pow-add 4 h 484) ∙ four_pow k ∙ pow-add 2 k k)

normal_scale : (i j q u : ℕ) → 2 ^ i ≤ q → 0 < u → 1 * 2 ^ (i + j) ≤ q * u * 2 ^ j
normal_scale i j q u h p =
    le_trans (le_of_eq (one-mul (2 ^ (i + j)) ∙ pow-add 2 i j)) (mul-le-mul_right (2 ^ j) (le_trans h (le_trans (le_of_eq (sym (mul-one q))) (mul-le-mul_left q p))))

-- ---- the theorem
lt_cross : (x y : Float) → T (unsigned x) → T (unsigned y) → T (lt x y) → num x * den y < num y * den x
unfolding lt
lt_cross nan y p q h = absurd p
lt_cross (inf s) y p q h = absurd p
lt_cross (fin true m e) y p q h = absurd p
lt_cross (fin false m e) nan p q h = absurd q
lt_cross (fin false m e) (inf s) p q h = absurd q
lt_cross (fin false m e) (fin true n d) p q h = absurd q
lt_cross (fin false m e) (fin false n d) p q h = ltb→lt (m * up e * down d) (n * up d * down e) h

pub positive_unsigned : (x : Float) → T (positive x) → T (unsigned x)
positive_unsigned nan p = absurd p
positive_unsigned (inf s) p = absurd p
positive_unsigned (fin true m e) p = absurd p
positive_unsigned (fin false m e) p = tt

-- ---- the middle of two numbers and a root, as fractions and as whole numbers
abbrev pub sum_num : Float → Float → ℕ
sum_num x y = num x * den y + num y * den x

abbrev MiddleBelow : Float → Float → Float → Type 0
MiddleBelow x y z = sum_num x y * sum_num x y * den z < 4 * num z * (den x * den y * (den x * den y))

abbrev MiddleAbove : Float → Float → Float → Type 0
MiddleAbove x y z = 4 * num z * (den x * den y * (den x * den y)) < sum_num x y * sum_num x y * den z

fraction_of_lem : (x : Float) → T (unsigned x) → fraction_of x ≡ fraction false (num x) (den x)
fraction_of_lem nan p = absurd p
fraction_of_lem (inf s) p = absurd p
fraction_of_lem (fin true m e) p = absurd p
fraction_of_lem (fin false m e) p = refl

module _ (x y z : Float) (p : T (unsigned x)) (q : T (unsigned y)) (r : T (unsigned z)) where
  below_is : fraction_less (sum_squared x y) (fourfold z) ≡ ltb (sum_num x y * sum_num x y * den z) (4 * num z * (den x * den y * (den x * den y)))
  below_is = rw (fraction_of_lem x p, fraction_of_lem y q, fraction_of_lem z r, one-mul (den z))

  above_is : fraction_less (fourfold z) (sum_squared x y) ≡ ltb (4 * num z * (den x * den y * (den x * den y))) (sum_num x y * sum_num x y * den z)
  above_is = rw (fraction_of_lem x p, fraction_of_lem y q, fraction_of_lem z r, one-mul (den z))

  pub middle_low : T (fraction_less (sum_squared x y) (fourfold z)) → MiddleBelow x y z
  middle_low t = ltb→lt _ _ (subst T below_is t)

  pub middle_high : T (fraction_less (fourfold z) (sum_squared x y)) → MiddleAbove x y z
  middle_high t = ltb→lt _ _ (subst T above_is t)

  low_middle : MiddleBelow x y z → T (fraction_less (sum_squared x y) (fourfold z))
  low_middle h = subst T (sym below_is) (lt→ltb _ _ h)

  high_middle : MiddleAbove x y z → T (fraction_less (fourfold z) (sum_squared x y))
  high_middle h = subst T (sym above_is) (lt→ltb _ _ h)

module _ (x : Float) (n a h : ℕ) (value : HasValue x false n (2 ^ 1074)) (xp : T (unsigned x)) (d : PartedUnits n a h) where
  abbrev digits_of : ℕ
  digits_of = nearest_root (a * 2 ^ 52)

  abbrev answer : Float
  answer = units binary64 false digits_of (h + 484)

  bounds : (2 ^ 52 ≤ digits_of) × (digits_of < 2 ^ 53)
  bounds = nearest_bounds a d.low d.high

  close : Close (a * 2 ^ 52) digits_of
  close = nearest_close (a * 2 ^ 52) (omega (arith, d.low)) (omega (arith, d.high))

  large : 2 ^ 104 ≤ a * 2 ^ 52
  large = omega (arith, d.low)

  answer_value : HasValue answer false (digits_of * 2 ^ (h + 484)) (2 ^ 1074)
  answer_value =
      units_val binary64 false digits_of (h + 484)
      (lt_of_lt_of_le (shl_lt 53 (h + 484) bounds.1) (pow_mono {i = 53 + (h + 484)} {j = 2098} (omega (arith, d.short))))

  answer_held : T (fits binary64 answer)
  answer_held =
      subst (λ (z : Float). T (fits binary64 z)) (assembled digits_of (h + 484) bounds.0 bounds.1 (omega (arith, d.short)))
      (of_bits-fits binary64 ((h + 484) * 2 ^ 52 + digits_of))

  answer_positive : T (positive answer)
  answer_positive = positive_of_value answer (digits_of * 2 ^ (h + 484)) (2 ^ 1074) answer_value (mul-pos (lt_of_lt_of_le (pow_pos 52) bounds.0) (pow_pos (h + 484)))

  -- 2 ^ 1074 ≤ digits * 2 ^ k * 2 ^ 1022
  answer_normal : T (le least_normal answer)
  unfolding of_bits
  answer_normal =
      le_of_values least_normal answer 1 (2 ^ 1022) (digits_of * 2 ^ (h + 484)) (2 ^ 1074) (pow_pos 1022) (pow_pos 1074) (refl, refl) answer_value
      (normal_scale 52 1022 digits_of (2 ^ (h + 484)) bounds.0 (pow_pos (h + 484)))

  scale : 4 * (n * 2 ^ 1074) ≡ 4 * (a * 2 ^ 52) * (2 ^ (h + 484) * 2 ^ (h + 484))
  scale = ap (λ (z : ℕ). 4 * z) (root_scale n (a * 2 ^ 52) h d.value) ∙ sym (mul_assoc 4 (a * 2 ^ 52) (2 ^ (h + 484) * 2 ^ (h + 484)))

  module _ (y : Float) (F : T (fits binary64 y)) (p : T (unsigned y)) where
    abbrev w : Whole y
    w = whole y F p

    answer_cross : num answer * 2 ^ 1074 ≡ digits_of * 2 ^ (h + 484) * den answer
    answer_cross = value→cross answer (digits_of * 2 ^ (h + 484)) (2 ^ 1074) answer_value

    y_cross : num y * 2 ^ 1074 ≡ w.digits * 2 ^ w.zeros * den y
    y_cross = value→cross y (w.digits * 2 ^ w.zeros) (2 ^ 1074) w.value

    middle_below : T (lt y answer) → MiddleBelow answer y x
    middle_below l =
        to_fractions (num answer) (den answer) (num y) (den y) (digits_of * 2 ^ (h + 484)) (w.digits * 2 ^ w.zeros) (2 ^ 1074) answer_cross y_cross
        (num x) (den x) n (value→cross x n (2 ^ 1074) value) (den_pos answer) (den_pos y) (den_pos x)
        (lt_of_lt_of_le
        (lower digits_of (h + 484) (a * 2 ^ 52) bounds.0 large close w.digits w.zeros w.short
        (more_units (num answer) (den answer) (num y) (den y) (digits_of * 2 ^ (h + 484)) (w.digits * 2 ^ w.zeros) (2 ^ 1074) answer_cross y_cross (pow_pos 1074)
        (lt_cross y answer p (positive_unsigned answer answer_positive) l)))
        (le_of_eq (sym scale)))

    middle_above : T (lt answer y) → MiddleAbove answer y x
    middle_above l =
        from_fractions (num answer) (den answer) (num y) (den y) (digits_of * 2 ^ (h + 484)) (w.digits * 2 ^ w.zeros) (2 ^ 1074) answer_cross y_cross
        (num x) (den x) n (value→cross x n (2 ^ 1074) value) (den_pos answer) (den_pos y) (den_pos x)
        (lt_of_le_of_lt (le_of_eq scale)
        (higher digits_of (h + 484) (a * 2 ^ 52) bounds.0 large close w.digits w.zeros w.short
        (less_units (num answer) (den answer) (num y) (den y) (digits_of * 2 ^ (h + 484)) (w.digits * 2 ^ w.zeros) (2 ^ 1074) answer_cross y_cross (pow_pos 1074)
        (lt_cross answer y (positive_unsigned answer answer_positive) p l))))

  units_nearest : NearestRoot x (root_units n)
  units_nearest =
      subst (λ (z : Float). NearestRoot x z) (sym (the_root_units n a h d))
      (record { held = answer_held; is_positive = answer_positive; is_normal = answer_normal; below = λ y F p l. low_middle answer y x (positive_unsigned answer answer_positive) p xp (middle_below y F p l); above = λ y F p l. high_middle answer y x (positive_unsigned answer answer_positive) p xp (middle_above y F p l) })

-- ---- the definition at a positive finite number
wrong : {A : Type 0} → false ≡ true → A
wrong e = absurd (subst T (sym e) tt)

pub above_unsigned : (x : Float) → lt zero64 x ≡ true → lt x inf64 ≡ true → T (unsigned x)
unfolding lt of_bits
above_unsigned nan p q = wrong p
above_unsigned (inf true) p q = wrong p
above_unsigned (inf false) p q = wrong q
above_unsigned (fin true m e) p q = wrong p
above_unsigned (fin false m e) p q = tt

value_units : (x : Float) (w : ℕ) → HasValue x false w (2 ^ 1074) → in_units x ≡ w
unfolding in_units
value_units nan w h = absurd h
value_units (inf s) w h = absurd h
value_units (fin s m e) w h = rw h.1 (mul-div_cancel w (down_pos e))

own_units : (x : Float) → T (fits binary64 x) → lt zero64 x ≡ true → lt x inf64 ≡ true → HasValue x false (in_units x) (2 ^ 1074)
own_units x F p q =
    let w = whole x F (above_unsigned x p q) in
    subst (λ (z : ℕ). HasValue x false z (2 ^ 1074)) (sym (value_units x (w.digits * 2 ^ w.zeros) w.value)) w.value

pub not_below : (x : Float) → T (nonneg x) → lt x (fin false 0 (pos 0)) ≡ false
unfolding lt
not_below nan p = refl
not_below (inf true) p = absurd p
not_below (inf false) p = refl
not_below (fin true m e) p = absurd p
not_below (fin false m e) p =
    untrue (ltb (m * up e * 1) (0 * down e))
    (λ t. not-suc-le-zero (subst (λ (z : ℕ). m * up e * 1 < z) (zero-mul (down e)) (ltb→lt (m * up e * 1) (0 * down e) t)))

-- what is above zero is not below it
above_not_below : (x : Float) → lt zero64 x ≡ true → lt x zero64 ≡ false
unfolding lt of_bits
above_not_below nan p = refl
above_not_below (inf true) p = wrong p
above_not_below (inf false) p = refl
above_not_below (fin true m e) p = wrong p
above_not_below (fin false m e) p = not_below (fin false m e) tt

pub root_is : (x : Float) → lt zero64 x ≡ true → lt x inf64 ≡ true → root x ≡ root_units (in_units x)
unfolding root
root_is x p q = rw (above_not_below x p, p, q)

pub root_end : (x : Float) → lt zero64 x ≡ true → lt x inf64 ≡ false → root x ≡ x
unfolding root
root_end x p q = rw (above_not_below x p, p, q)

-- squareRoot of a positive finite number
pub root_nearest : (x : Float) → T (fits binary64 x) → T (lt zero64 x) → T (lt x inf64) → NearestRoot x (root x)
root_nearest x F p q =
    let P = is_true (lt zero64 x) p in
    let Q = is_true (lt x inf64) q in
    let b = pattern x F P Q in
    let s = subst Parts b.units_are (parts_of_bits (to_bits binary64 x) b.above b.below) in
    subst (λ (z : Float). NearestRoot x z) (sym (root_is x P Q)) (units_nearest x (in_units x) s.a s.h (own_units x F P Q) (above_unsigned x P Q) s.parts)

-- ---- the others: a negative number's root is NaN, minus infinity's too; NaN, plus infinity and the zeros of either sign are their own
pub root_of_negative : (x : Float) → T (lt x zero64) → root x ≡ nan
unfolding root
root_of_negative x h = rw (is_true (lt x zero64) h)

pub root_of_nan : root nan ≡ nan
unfolding root lt of_bits
root_of_nan = refl

pub root_of_infinity : root (inf false) ≡ inf false
unfolding root lt of_bits
root_of_infinity = refl

pub root_of_zero : (s : Bool) → root (fin s 0 (pos 0)) ≡ fin s 0 (pos 0)
unfolding root lt of_bits
root_of_zero true = refl
root_of_zero false = refl
