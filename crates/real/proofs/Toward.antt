-- The point r of the way from a to d: a + r (d - a), each operation rounded, for r from 0 to 2 / 3. It lies between a and d, whichever is the greater. Over any format. Assumes nothing.
-- A value of a format is a whole number of the format's smallest value, its units, with a sign. d - a is n units, exactly; let W be n rounded, and T be r W rounded.
-- There are q 2 ^ j ≤ n ≤ p 2 ^ j with p ≤ 4 and 2 p ≤ 3 q. Both are values of the format, so W ≤ p 2 ^ j, so r W ≤ q 2 ^ j, so T ≤ q 2 ^ j ≤ n. So the exact a + T does not pass d, nor does its rounded value.
use Rattle.std.proofs.Common.{◌≡◌, ℕ, ◌+◌, ◌-◌, ◌*◌, ◌/◌, ◌^◌, ◌<◌, ◌≤◌, Bool, true, false, cond, not, ◌&&◌, T, ltb, pos, sym, refl, ap, ◌∙◌, subst, inl, inr, true≢false, zero-le, le_trans, le_of_eq, lt_of_lt_of_le, lt_of_le_of_lt, le_of_lt, mul-le-mul_right, mul_assoc, mul_comm, div-lt_iff_lt-mul, add-mul, lt_of_mul-lt-mul_right, mul-le-mul_left, mul-lt-mul_of_pos_right, mul-pos, le-div_iff_mul-le, zero-mul, mul_right_comm, not-le_of_lt, div-mul-le_self, le_of_mul-le-mul_right, mul_left_comm, arith, lit<, ltb→lt, lt→ltb, pow_pos, pow_mono, pow-add}
use native.Mathlib.Nat.{mul-sub}
use lib.Ieee.{Float, nan, inf, fin, Format, binary32, binary64, prec, low, up, down, size, round, sum, add, sub, mul, neg, lt, le, fits}
use lib.Ieee.Digits.{size-lt, size_reaches}
use lib.Ieee.Fits.{down_pos, neg-fits, sub-fits}
use lib.Ieee.Exact.{HasValue, round_exact}
use lib.Ieee.Order.{transfer, round_mono}
use lib.Ieee.Scale.{grid, overflow, finite, round_same, round_val, round_under}
use lib.Ieee.Positive.{num, den, den_pos}
use Rattle.real.specs.Reals.{magnitude}
use Rattle.real.proofs.SignedOrder.{P, N, SLe, SumIs, sgn, sle_of, sle_scale, sle_unscale, sle_at, le→sle, here_or_on, round_smono, sum_is, add_opened, add_mono, mul_commute, mul_by, natural, nat_fin, round_mag, mag_nat, mag_finite, in_fin, sub_opened, neg_finite, neg_anti, round_sgn, sgn_natural, zero_of, lt_not_le, le_self}
use Rattle.real.proofs.Values.{round_own}
use Rattle.real.proofs.Rounding.{same_truth}

-- ---- units

-- x is n units in size
abbrev Units : Format → Float → ℕ → Type 0
Units f x n = num x * 2 ^ low f ≡ n * den x

abbrev units_of : Format → Float → ℕ
units_of f x = grid f (num x) (den x)

value_units : (f : Format) (x : Float) (n : ℕ) → T (finite x) → HasValue (magnitude x) false n (2 ^ low f) → Units f x n
unfolding magnitude
value_units f nan n p v = absurd p
value_units f (inf s) n p v = absurd p
value_units f (fin s m e) n p v = v.1

mag_fits : (f : Format) (x : Float) → T (fits f x) → T (fits f (magnitude x))
unfolding magnitude neg
mag_fits f nan h = h
mag_fits f (inf s) h = unfold fits in tt
mag_fits f (fin false m e) h = h
mag_fits f (fin true m e) h = neg-fits f (fin true m e) h

-- the size of a value, rounded, is itself
mag_own : (f : Format) (x : Float) → T (fits f x) → T (finite x) → round f false (num x) (den x) ≡ magnitude x
mag_own f nan h p = absurd p
mag_own f (inf s) h p = absurd p
mag_own f (fin s m e) h p = unfold magnitude in round_own f false m e (mag_fits f (fin s m e) h)

mag_fin : (x : Float) → T (finite x) → T (finite (magnitude x))
mag_fin x p = nat_fin (magnitude x) (mag_nat x p)

fin_mag : (x : Float) → T (natural (magnitude x)) → T (finite x)
fin_mag x p = mag_finite x (magnitude x) p (le_self (magnitude x) (nat_fin (magnitude x) p))

-- a finite value whose size is a / c rounded
rounded_units : (f : Format) (x : Float) (a c : ℕ) → T (finite x) → magnitude x ≡ round f false a c → Units f x (grid f a c)
rounded_units f x a c p e =
    value_units f x (grid f a c) p
    (subst (λ (y : Float). HasValue y false (grid f a c) (2 ^ low f)) (sym e) (round_val f a c (round_under f a c (subst (λ (y : Float). T (finite y)) e (mag_fin x p)))))

own_units : (f : Format) (x : Float) → T (fits f x) → T (finite x) → Units f x (units_of f x)
own_units f x h p = rounded_units f x (num x) (den x) p (sym (mag_own f x h p))

signed_own : (f : Format) (x : Float) → T (fits f x) → T (finite x) → round f (sgn x) (num x) (den x) ≡ x
signed_own f nan h p = absurd p
signed_own f (inf s) h p = absurd p
signed_own f (fin s m e) h p = round_own f s m e h

of_units : (f : Format) (x : Float) (n : ℕ) → T (fits f x) → T (finite x) → Units f x n → round f (sgn x) n (2 ^ low f) ≡ x
of_units f x n h p u = round_same f (sgn x) n (2 ^ low f) (num x) (den x) (pow_pos (low f)) (den_pos x) (sym u) ∙ signed_own f x h p

-- the order, in units
le_units : (f : Format) (x y : Float) (n k : ℕ) → T (finite x) → T (finite y) → Units f x n → Units f y k → T (le x y) → SLe (sgn x) n (sgn y) k
le_units f x y n k p q u v h =
    let L = 2 ^ low f in
    let C = den x * den y in
    let a : num x * den y * L ≡ n * C = mul_right_comm (num x) (den y) L ∙ ap (λ (z : ℕ). z * den y) u ∙ mul_assoc n (den x) (den y) in
    let b : num y * den x * L ≡ k * C = mul_right_comm (num y) (den x) L ∙ ap (λ (z : ℕ). z * den x) v ∙ mul_assoc k (den y) (den x) ∙ ap (λ (z : ℕ). k * z) (mul_comm (den y) (den x)) in
    sle_unscale (sgn x) (sgn y) n k C (mul-pos (den_pos x) (den_pos y))
    (sle_at (sgn x) (sgn y) (num x * den y * L) (n * C) (num y * den x * L) (k * C) a b (sle_scale (sgn x) (sgn y) (num x * den y) (num y * den x) L (le→sle x y p q h)))

-- ---- a sum sees only the values of its fractions
module _ (a b c a' b' c' : ℕ) (C : 0 < c) (C' : 0 < c') (p : a * c' ≡ a' * c) (q : b * c' ≡ b' * c) where
  lt_same : a < b → a' < b'
  lt_same h = lt_of_mul-lt-mul_right c (subst (λ (z : ℕ). z < b' * c) p (subst (λ (z : ℕ). a * c' < z) q (mul-lt-mul_of_pos_right h C')))

  add_same : (a + b) * c' ≡ (a' + b') * c
  add_same = omega (arith, add-mul a b c', add-mul a' b' c)

module _ (a b c a' b' c' : ℕ) (C : 0 < c) (C' : 0 < c') (p : a * c' ≡ a' * c) (q : b * c' ≡ b' * c) where
  ltb_same : ltb a b ≡ ltb a' b'
  ltb_same = same_truth (ltb a b) (ltb a' b') (λ t. lt→ltb a' b' (lt_same a b c a' b' c' C C' p q (ltb→lt a b t))) (λ t. lt→ltb a b (lt_same a' b' c' a b c C' C (sym p) (sym q) (ltb→lt a' b' t)))

  sub_same : (b - a) * c' ≡ (b' - a') * c
  sub_same =
      mul_comm (b - a) c'
      ∙ mul-sub c' b a
      ∙ less (c' * b) (b' * c) (c' * a) (a' * c) (mul_comm c' b ∙ q) (mul_comm c' a ∙ p)
      ∙ sym (mul_comm (b' - a') c ∙ mul-sub c b' a' ∙ less (c * b') (b' * c) (c * a') (a' * c) (mul_comm c b') (mul_comm c a'))
    where
      less : (x x' y y' : ℕ) → x ≡ x' → y ≡ y' → x - y ≡ x' - y'
      less x x' y y' g h = omega arith

sum_same : (f : Format) (s t : Bool) (a b c a' b' c' : ℕ) → 0 < c → 0 < c' → a * c' ≡ a' * c → b * c' ≡ b' * c → sum f s a t b c ≡ sum f s a' t b' c'
unfolding sum
sum_same f true true a b c a' b' c' C C' p q = round_same f true (a + b) c (a' + b') c' C C' (add_same a b c a' b' c' C C' p q)
sum_same f false false a b c a' b' c' C C' p q = round_same f false (a + b) c (a' + b') c' C C' (add_same a b c a' b' c' C C' p q)
sum_same f true false a b c a' b' c' C C' p q =
    rw (ltb_same a b c a' b' c' C C' p q, ltb_same b a c b' a' c' C C' q p, round_same f false (b - a) c (b' - a') c' C C' (sub_same a b c a' b' c' C C' p q))
    (ap (λ (x : Float). cond (ltb a' b') (round f false (b' - a') c') x) (round_same f (true && ltb b' a') (a - b) c (a' - b') c' C C' (sub_same b a c b' a' c' C C' q p)))
sum_same f false true a b c a' b' c' C C' p q =
    rw (ltb_same a b c a' b' c' C C' p q, round_same f true (b - a) c (b' - a') c' C C' (sub_same a b c a' b' c' C C' p q))
    (ap (λ (x : Float). cond (ltb a' b') (round f true (b' - a') c') x) (round_same f false (a - b) c (a' - b') c' C C' (sub_same b a c b' a' c' C C' q p)))

add_units : (f : Format) (x y : Float) (n k : ℕ) → T (finite x) → T (finite y) → Units f x n → Units f y k → add f x y ≡ sum f (sgn x) n (sgn y) k (2 ^ low f)
add_units f x y n k p q u v =
    let L = 2 ^ low f in
    add_opened f x y p q
    ∙ sum_same f (sgn x) (sgn y) (num x * den y) (num y * den x) (den x * den y) n k L (mul-pos (den_pos x) (den_pos y)) (pow_pos (low f))
    (mul_right_comm (num x) (den y) L ∙ ap (λ (z : ℕ). z * den y) u ∙ mul_assoc n (den x) (den y))
    (mul_right_comm (num y) (den x) L ∙ ap (λ (z : ℕ). z * den x) v ∙ mul_assoc k (den y) (den x) ∙ ap (λ (z : ℕ). k * z) (mul_comm (den y) (den x)))

neg_units : (f : Format) (x : Float) (n : ℕ) → Units f x n → Units f (neg x) n
unfolding neg
neg_units f nan n u = u
neg_units f (inf s) n u = u
neg_units f (fin s m e) n u = u

neg_sgn : (x : Float) → T (finite x) → sgn (neg x) ≡ not (sgn x)
unfolding neg
neg_sgn nan p = absurd p
neg_sgn (inf s) p = absurd p
neg_sgn (fin s m e) p = refl

sub_units : (f : Format) (x y : Float) (n k : ℕ) → T (finite x) → T (finite y) → Units f x n → Units f y k → sub f x y ≡ sum f (sgn x) n (not (sgn y)) k (2 ^ low f)
sub_units f x y n k p q u v =
    sub_opened f x y
    ∙ add_units f x (neg y) n k p (neg_finite y q) u (neg_units f y k v)
    ∙ ap (λ (s : Bool). sum f (sgn x) n s k (2 ^ low f)) (neg_sgn y q)

-- ---- what is at most q 2 ^ j units, q of no more digits than the format keeps, rounds to at most that
value_order : (x y : Float) (a b c : ℕ) → 0 < c → HasValue x false a c → HasValue y false b c → T (le x y) → a ≤ b
unfolding le
value_order nan y a b c C p q h = absurd p
value_order (inf s) y a b c C p q h = absurd p
value_order (fin s m e) nan a b c C p q h = absurd q
value_order (fin s m e) (inf t) a b c C p q h = absurd q
value_order (fin true m e) (fin t n d) a b c C p q h = absurd (true≢false p.0)
value_order (fin false m e) (fin true n d) a b c C p q h = absurd (true≢false q.0)
value_order (fin false m e) (fin false n d) a b c C p q h =
    let k = sle_of false false (m * up e * down d) (n * up d * down e) h in
    le_of_mul-le-mul_right (transfer a b c c (m * up e) (n * up d) (down e) (down d) (down_pos e) (down_pos d) (sym p.1) (sym q.1) (omega arith)) C

rounds_under : (f : Format) (a c q j : ℕ) → 0 < c → q < 2 ^ prec f → T (finite (round f false a c)) → a * 2 ^ low f ≤ q * 2 ^ j * c → grid f a c ≤ q * 2 ^ j
rounds_under f a c q j C small p h =
    let L = 2 ^ low f in
    elim (here_or_on (q * 2 ^ j) (overflow f)) [
      | inl l ↦
          value_order (round f false a c) (round f false (q * 2 ^ j) L) (grid f a c) (q * 2 ^ j) L (pow_pos (low f)) (round_val f a c (round_under f a c p))
          (round_exact f false (q * 2 ^ j) L q j (pow_pos (low f)) small l refl)
          (round_mono f a c (q * 2 ^ j) L C (pow_pos (low f)) h)
      | inr l ↦ le_trans (le_of_lt (round_under f a c p)) l
    ]

-- ---- two such numbers about n, the lower at least two thirds of the upper
record About (n : ℕ) : Type 0 where
  q : ℕ
  p : ℕ
  j : ℕ
  above : q * 2 ^ j ≤ n
  under : n ≤ p * 2 ^ j
  near : 2 * p ≤ 3 * q
  few : p ≤ 4
  lower : q ≤ 4

about : (n : ℕ) → About n
about n = elim (here_or_on n 2) [ inl h ↦ record { q = n; p = n; j = 0; above = omega arith; under = omega arith; near = omega arith; few = omega arith; lower = omega arith } | inr h ↦ wide h ]
  where
    wide : 2 ≤ n → About n
    wide h =
        let z = size n in
        let two : 2 ≤ z = elim (here_or_on z 2) [ inl l ↦ absurd (not-le_of_lt (lt_of_lt_of_le (size-lt n) (pow_mono {i = z} {j = 1} (omega arith))) h) | inr l ↦ l ] in
        let j = z - 2 in
        let u = 2 ^ j in
        let J : 0 < u = pow_pos j in
        let lo : 2 ^ (1 + j) ≤ n = size_reaches n (1 + j) (omega arith) in
        let e : 2 + j ≡ z = omega arith in
        let hi : n < 2 ^ (2 + j) = subst (λ (k : ℕ). n < 2 ^ k) (sym e) (size-lt n) in
        let d1 : 2 ^ (1 + j) ≡ 2 * u = pow-add 2 1 j in
        let d2 : 2 ^ (2 + j) ≡ 4 * u = pow-add 2 2 j in
        let q = n / u in
        let low : 2 ≤ q = (le-div_iff_mul-le J).1 (omega arith) in
        let high : q < 4 = (div-lt_iff_lt-mul J).1 (omega arith) in
        let next : n < (q + 1) * u = (div-lt_iff_lt-mul J).0 (omega arith) in
        record { q = q; p = q + 1; j = j; above = div-mul-le_self n u; under = le_of_lt next; near = omega arith; few = omega arith; lower = omega arith }

digits : (f : Format) → 4 < 2 ^ prec f
digits binary32 = lit< tt
digits binary64 = lit< tt

-- r = R / S, at most 2 / 3, of what n units round to: x / y, W units. It rounds to at most n units
part : (f : Format) (n R S x y : ℕ) → 0 < S → 0 < y → 3 * R ≤ 2 * S → T (finite (round f false n (2 ^ low f))) → T (finite (round f false (x * R) (y * S)))
    → x * 2 ^ low f ≡ grid f n (2 ^ low f) * y → grid f (x * R) (y * S) ≤ n
part f n R S x y S0 y0 third p p' e =
    let L = 2 ^ low f in
    let W = grid f n L in
    let a = about n in
    let u = 2 ^ a.j in
    let w : W ≤ a.p * u = rounds_under f n L a.p a.j (pow_pos (low f)) (lt_of_le_of_lt a.few (digits f)) p (mul-le-mul_right L a.under) in
    let q = a.q in
    let k1 : 3 * R * W ≤ 2 * S * W = mul-le-mul_right W third in
    let k2 : 2 * S * W ≤ 2 * S * (a.p * u) = mul-le-mul_left (2 * S) w in
    let k3 : 2 * a.p * (S * u) ≤ 3 * q * (S * u) = mul-le-mul_right (S * u) a.near in
    let e1 : 3 * R * W ≡ 3 * (R * W) = mul_assoc 3 R W in
    let e2 : 2 * S * (a.p * u) ≡ 2 * a.p * (S * u) = simp (mul_assoc, mul_left_comm) in
    let e3 : 3 * q * (S * u) ≡ 3 * (q * u * S) = mul_assoc 3 q (S * u) ∙ ap (λ (z : ℕ). 3 * z) (ap (λ (z : ℕ). q * z) (mul_comm S u) ∙ sym (mul_assoc q u S)) in
    let k : R * W ≤ q * u * S = omega arith in
    let m : x * R * L ≡ R * W * y = mul_right_comm x R L ∙ ap (λ (z : ℕ). z * R) e ∙ mul_right_comm W y R ∙ ap (λ (z : ℕ). z * y) (mul_comm W R) in
    le_trans
    (rounds_under f (x * R) (y * S) q a.j (mul-pos y0 S0) (lt_of_le_of_lt a.lower (digits f)) p'
    (le_trans (le_of_eq m) (le_trans (mul-le-mul_right y k) (le_of_eq (mul_assoc (q * u) S y ∙ ap (λ (z : ℕ). q * u * z) (mul_comm S y))))))
    a.above

-- ---- the order about a + T, where T ≤ n and d = a + n, or a - T and d = a - n: Z is below a and d, or above them
way_below : (ζ s t σ ξ : Bool) (Z A B n k m : ℕ) → SLe ζ Z s A → SLe ζ Z t B → m ≤ n → P σ n + (N t B + N (not s) A) ≡ N σ n + (P t B + P (not s) A) → P ξ k + (N s A + N σ m) ≡ N ξ k + (P s A + P σ m) → SLe ζ Z ξ k
way_below ζ true t true ξ Z A B n k m h g l w x = omega arith
way_below ζ true t false ξ Z A B n k m h g l w x = omega arith
way_below ζ false t true ξ Z A B n k m h g l w x = omega arith
way_below ζ false t false ξ Z A B n k m h g l w x = omega arith

way_above : (ζ s t σ ξ : Bool) (Z A B n k m : ℕ) → SLe s A ζ Z → SLe t B ζ Z → m ≤ n → P σ n + (N t B + N (not s) A) ≡ N σ n + (P t B + P (not s) A) → P ξ k + (N s A + N σ m) ≡ N ξ k + (P s A + P σ m) → SLe ξ k ζ Z
way_above ζ true t true ξ Z A B n k m h g l w x = omega arith
way_above ζ true t false ξ Z A B n k m h g l w x = omega arith
way_above ζ false t true ξ Z A B n k m h g l w x = omega arith
way_above ζ false t false ξ Z A B n k m h g l w x = omega arith

-- ---- signs and sizes of d - a, n units with the sign σ
back : (s t : Bool) (A B n : ℕ) → 0 + (N t B + N (not s) A) ≡ n + (P t B + P (not s) A) → SLe t B s A
back true t A B n e = omega arith
back false t A B n e = omega arith

shorter : (s t σ : Bool) (A B n : ℕ) → SLe false 0 s A → SLe s A t B → P σ n + (N t B + N (not s) A) ≡ N σ n + (P t B + P (not s) A) → n ≤ B
shorter true true true A B n h k e = omega arith
shorter true true false A B n h k e = omega arith
shorter true false true A B n h k e = omega arith
shorter true false false A B n h k e = omega arith
shorter false true true A B n h k e = omega arith
shorter false true false A B n h k e = omega arith
shorter false false true A B n h k e = omega arith
shorter false false false A B n h k e = omega arith

flip-N : (s : Bool) (n : ℕ) → N (not s) n ≡ P s n
flip-N true n = refl
flip-N false n = refl

flip-P : (s : Bool) (n : ℕ) → P (not s) n ≡ N s n
flip-P true n = refl
flip-P false n = refl

as_long : (s t σ τ : Bool) (A B n k : ℕ) → P σ n + (N t B + N (not s) A) ≡ N σ n + (P t B + P (not s) A) → P τ k + (N s A + N (not t) B) ≡ N τ k + (P s A + P (not t) B) → n ≡ k
as_long s t σ τ A B n k = rw (flip-N s A, flip-P s A, flip-N t B, flip-P t B) (go σ τ)
  where
    go : (σ τ : Bool) → P σ n + (N t B + P s A) ≡ N σ n + (P t B + N s A) → P τ k + (N s A + P t B) ≡ N τ k + (P s A + N t B) → n ≡ k
    go true true g h = omega arith
    go true false g h = omega arith
    go false true g h = omega arith
    go false false g h = omega arith

-- ---- the way from a to d
module _ (f : Format) (a d : Float) (fa : T (fits f a)) (fd : T (fits f d)) (na : T (finite a)) (nd : T (finite d)) where
  abbrev L : ℕ
  L = 2 ^ low f

  abbrev W : Float
  W = sub f d a

  -- d - a is n units, with the sign σ
  abbrev wide : SumIs f (sgn d) (units_of f d) (not (sgn a)) (units_of f a) L
  wide = sum_is f (sgn d) (not (sgn a)) (units_of f d) (units_of f a) L

  W-is : W ≡ round f wide.0 wide.1 L
  W-is = sub_units f d a (units_of f d) (units_of f a) nd na (own_units f d fd nd) (own_units f a fa na) ∙ wide.2

  W-mag : magnitude W ≡ round f false wide.1 L
  W-mag = ap magnitude W-is ∙ round_mag f wide.0 wide.1 L

  -- it is finite where n units round to a finite value
  W-fin : T (finite (round f false wide.1 L)) → T (finite W)
  W-fin p = fin_mag W (subst (λ (z : Float). T (natural z)) (sym W-mag) (sgn_natural (round f false wide.1 L) p (round_sgn f false wide.1 L)))

  -- where a < d, its sign is clear
  pub forward : T (finite W) → T (lt a d) → T (natural W)
  forward nw h = sgn_natural W nw (ap sgn W-is ∙ round_sgn f wide.0 wide.1 L ∙ go wide.0 wide.3)
    where
      go : (σ : Bool) → P σ wide.1 + (N (sgn d) (units_of f d) + N (not (sgn a)) (units_of f a)) ≡ N σ wide.1 + (P (sgn d) (units_of f d) + P (not (sgn a)) (units_of f a)) → σ ≡ false
      go false e = refl
      go true e =
          absurd
          (lt_not_le a d na nd h
          (subst (λ (x : Float). T (le x a)) (of_units f d (units_of f d) fd nd (own_units f d fd nd))
          (subst (λ (x : Float). T (le (round f (sgn d) (units_of f d) L) x)) (of_units f a (units_of f a) fa na (own_units f a fa na))
          (round_smono f (sgn d) (sgn a) (units_of f d) L (units_of f a) L (pow_pos (low f)) (pow_pos (low f))
          (sle_scale (sgn d) (sgn a) (units_of f d) (units_of f a) L (back (sgn a) (sgn d) (units_of f a) (units_of f d) wide.1 e))))))

  -- where 0 ≤ a ≤ d, it is at most d, so finite
  pub width_finite : T (le (fin false 0 (pos 0)) a) → T (le a d) → T (finite W)
  width_finite h k =
      W-fin
      (nat_fin (round f false wide.1 L)
      (sgn_natural (round f false wide.1 L)
      (in_fin (fin false 0 (pos 0)) (round f false wide.1 L) (magnitude d) tt (mag_fin d nd)
      (subst (λ (x : Float). T (le x (round f false wide.1 L))) (zero_of f false L (pow_pos (low f)))
      (round_mono f 0 L wide.1 L (pow_pos (low f)) (pow_pos (low f)) (mul-le-mul_right L zero-le)))
      (subst (λ (x : Float). T (le (round f false wide.1 L) x)) (mag_own f d fd nd)
      (round_mono f wide.1 L (num d) (den d) (pow_pos (low f)) (den_pos d)
      (le_trans (mul-le-mul_right (den d) (shorter (sgn a) (sgn d) wide.0 (units_of f a) (units_of f d) wide.1
      (le_units f (fin false 0 (pos 0)) a 0 (units_of f a) tt na (zero-mul L) (own_units f a fa na) h)
      (le_units f a d (units_of f a) (units_of f d) na nd (own_units f a fa na) (own_units f d fd nd) k) wide.3))
      (le_of_eq (sym (own_units f d fd nd)))))))
      (round_sgn f false wide.1 L)))

-- ---- the way back is as long
module _ (f : Format) (x y : Float) (fx : T (fits f x)) (fy : T (fits f y)) (nx : T (finite x)) (ny : T (finite y)) (nw : T (finite (sub f y x))) where
  swap_finite : T (finite (sub f x y))
  swap_finite =
      let u = wide f x y fx fy nx ny in
      let v = wide f y x fy fx ny nx in
      W-fin f y x fy fx ny nx
      (subst (λ (n : ℕ). T (finite (round f false n (2 ^ low f)))) (as_long (sgn x) (sgn y) u.0 v.0 (units_of f x) (units_of f y) u.1 v.1 u.3 v.3)
      (subst (λ (z : Float). T (finite z)) (W-mag f x y fx fy nx ny) (mag_fin (sub f y x) nw)))

  -- a width within a finite one is finite
  pub within_finite : (a d : Float) → T (finite a) → T (finite d) → T (le x a) → T (le a y) → T (le x d) → T (le d y) → T (finite (sub f d a))
  within_finite a d na nd h k i j =
      in_fin (sub f x y) (sub f d a) (sub f y x) swap_finite nw
      (rw (sub_opened f x y, sub_opened f d a) (add_mono f x d (neg y) (neg a) nx nd (neg_finite y ny) (neg_finite a na) i (neg_anti a y k)))
      (rw (sub_opened f d a, sub_opened f y x) (add_mono f d y (neg a) (neg x) nd ny (neg_finite a na) (neg_finite x nx) j (neg_anti x a h)))

-- ---- the point
module _ (f : Format) (r a d : Float) (fa : T (fits f a)) (fd : T (fits f d)) (na : T (finite a)) (nd : T (finite d)) (nw : T (finite (sub f d a))) (nr : T (natural r)) (third : 3 * num r ≤ 2 * den r) where
  abbrev H : Float
  H = sub f d a

  abbrev K : ℕ
  K = 2 ^ low f

  abbrev way : SumIs f (sgn d) (units_of f d) (not (sgn a)) (units_of f a) K
  way = wide f a d fa fd na nd

  abbrev Y : Float
  Y = mul f r H

  -- r (d - a) rounded is m units of the same sign
  abbrev m : ℕ
  m = grid f (num H * num r) (den H * den r)

  Y-is : Y ≡ round f way.0 (num H * num r) (den H * den r)
  Y-is =
      mul_commute f r H (nat_fin r nr) nw
      ∙ mul_by f H r nw nr
      ∙ ap (λ (s : Bool). round f s (num H * num r) (den H * den r)) (ap sgn (W-is f a d fa fd na nd) ∙ round_sgn f way.0 way.1 K)

  Y-mag : magnitude Y ≡ round f false (num H * num r) (den H * den r)
  Y-mag = ap magnitude Y-is ∙ round_mag f way.0 (num H * num r) (den H * den r)

  pub toward_fin : T (finite Y)
  toward_fin =
      mag_finite Y (magnitude H) (mag_nat H nw)
      (subst (λ (z : Float). T (le z (magnitude H))) (sym Y-mag)
      (subst (λ (z : Float). T (le (round f false (num H * num r) (den H * den r)) z)) (mag_own f H (sub-fits f d a) nw)
      (round_mono f (num H * num r) (den H * den r) (num H) (den H) (mul-pos (den_pos H) (den_pos r)) (den_pos H) less)))
    where
      less : num H * num r * den H ≤ num H * (den H * den r)
      less = le_trans (le_of_eq (mul_assoc (num H) (num r) (den H) ∙ ap (λ (z : ℕ). num H * z) (mul_comm (num r) (den H)))) (mul-le-mul_left (num H) (mul-le-mul_left (den H) (omega arith)))

  m_less : m ≤ way.1
  m_less =
      part f way.1 (num r) (den r) (num H) (den H) (den_pos r) (den_pos H) third
      (subst (λ (z : Float). T (finite z)) (W-mag f a d fa fd na nd) (mag_fin H nw)) (subst (λ (z : Float). T (finite z)) Y-mag (mag_fin Y toward_fin))
      (rounded_units f H way.1 K nw (W-mag f a d fa fd na nd))

  abbrev moved : SumIs f (sgn a) (units_of f a) way.0 m K
  moved = sum_is f (sgn a) way.0 (units_of f a) m K

  point_is : add f a Y ≡ round f moved.0 moved.1 K
  point_is =
      add_units f a Y (units_of f a) m na toward_fin (own_units f a fa na) (rounded_units f Y (num H * num r) (den H * den r) toward_fin Y-mag)
      ∙ ap (λ (s : Bool). sum f (sgn a) (units_of f a) s m K) (ap sgn Y-is ∙ round_sgn f way.0 (num H * num r) (den H * den r))
      ∙ moved.2

  -- it is no less than any value that neither a nor d is less than
  pub toward_low : (z : Float) → T (fits f z) → T (finite z) → T (le z a) → T (le z d) → T (le z (add f a Y))
  toward_low z fz nz h k =
      let Z = units_of f z in
      let uz = own_units f z fz nz in
      subst (λ (x : Float). T (le x (add f a Y))) (of_units f z Z fz nz uz)
      (subst (λ (x : Float). T (le (round f (sgn z) Z K) x)) (sym point_is)
      (round_smono f (sgn z) moved.0 Z K moved.1 K (pow_pos (low f)) (pow_pos (low f))
      (sle_scale (sgn z) moved.0 Z moved.1 K
      (way_below (sgn z) (sgn a) (sgn d) way.0 moved.0 Z (units_of f a) (units_of f d) way.1 moved.1 m
      (le_units f z a Z (units_of f a) nz na uz (own_units f a fa na) h) (le_units f z d Z (units_of f d) nz nd uz (own_units f d fd nd) k) m_less way.3 moved.3))))

  -- and no more than any value that neither is more than
  pub toward_high : (z : Float) → T (fits f z) → T (finite z) → T (le a z) → T (le d z) → T (le (add f a Y) z)
  toward_high z fz nz h k =
      let Z = units_of f z in
      let uz = own_units f z fz nz in
      subst (λ (x : Float). T (le (add f a Y) x)) (of_units f z Z fz nz uz)
      (subst (λ (x : Float). T (le x (round f (sgn z) Z K))) (sym point_is)
      (round_smono f moved.0 (sgn z) moved.1 K Z K (pow_pos (low f)) (pow_pos (low f))
      (sle_scale moved.0 (sgn z) moved.1 Z K
      (way_above (sgn z) (sgn a) (sgn d) way.0 moved.0 Z (units_of f a) (units_of f d) way.1 moved.1 m
      (le_units f a z (units_of f a) Z na nz (own_units f a fa na) uz h) (le_units f d z (units_of f d) Z nd nz (own_units f d fd nd) uz k) m_less way.3 moved.3))))
