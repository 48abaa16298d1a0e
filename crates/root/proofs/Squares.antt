-- Whole square roots: one turn of the digit loop, the definition's root, and that there is one root.
use mathlib.Core.Path.{◌≡◌, refl, sym, ap, ◌∙◌, subst}
use mathlib.Core.Bool.{Bool, true, false, not, cond}
use Prim.Native.Nat.compare
use Prim.Native.Nat.{Ordering}
use Prim.Native.Nat.{ℕ, zero, suc, ◌+◌, ◌-◌, ◌*◌, ◌/◌, ◌%◌, ◌^◌, ◌≤◌, ◌<◌, compare}
use native.Mathlib.Nat.{mul-add, add-mul, mul_comm, mul_assoc, mul_left_comm, mul-le-mul, pow-suc, lt_of_lt_of_le, le_trans, not-suc-le-zero, le_of_suc-le-suc, lt_irrefl, lt_of_le_of_lt, lt_of_not-le, mul-mul-mul_comm, mul_right_comm, mul-le-mul_right, le_of_lt, mul-lt-mul_of_pos_left}
use native.Mathlib.Numerals.{add-one}
use native.Mathlib.Decide.{dec_le}
use native.Mathlib.Omega.{arith}
use borrow.Author.Tests.{lt-ltb, le-ltb}
use lib.Dec.{ltb, T, leb, leb→le, nleb→lt}
use lib.Pow.{pow_mono, pow-add, pow_pos}
use Rattle.root.specs.Root.{root_digit, isqrt, nearest_root}
use Rattle.std.specs.Int.{from_bool}
use Rattle.root.specs.Parts.{Rooted, Parted}

-- ---- the digit loop: after i turns q has i digits, and with what is left it makes the first i pairs of digits of a
pub record Digits (a q rem c i : ℕ) : Type 0 where
  pub below : i ≤ 53
  pub value : (q * q + rem) * 2 ^ 54 + c ≡ a * 4 ^ i
  pub small : rem ≤ q + q
  pub rest : c < 2 ^ 54
  pub short : q < 2 ^ i
  pub fits : q < 2 ^ 53

sq_even : (q : ℕ) → q * 2 * (q * 2) ≡ 4 * (q * q)
sq_even q = simp (mul_assoc, mul_comm, mul_left_comm) (omega arith)

sq_odd : (q : ℕ) → (q * 2 + 1) * (q * 2 + 1) ≡ 4 * (q * q) + 4 * q + 1
sq_odd q = mul-add (q * 2 + 1) (q * 2) 1 ∙ omega (arith, add-mul (q * 2) 1 (q * 2), sq_even q)

four_more : (a i : ℕ) → a * 4 ^ (i + 1) ≡ 4 * (a * 4 ^ i)
four_more a i = rw (add-one, pow-suc) (mul_comm a (4 ^ i * 4) ∙ omega (arith, mul_assoc (4 ^ i) 4 a, mul_comm 4 a, mul_left_comm (4 ^ i) 4 a, mul_comm (4 ^ i) a))

two_more : (i : ℕ) → 2 ^ (i + 1) ≡ 2 * 2 ^ i
two_more i = rw (add-one, pow-suc) (mul_comm (2 ^ i) 2)

module _ (a q rem c i : ℕ) (d : Digits a q rem c i) (h : i < 53) where
  short_more : 2 * 2 ^ i ≤ 2 ^ 53
  short_more = rw (← two_more i) (pow_mono {i = i + 1} {j = 53} (omega arith))

  pub one : q * 4 + 1 ≤ rem * 4 + c / 2 ^ 52 → Digits a (q * 2 + 1) (rem * 4 + c / 2 ^ 52 - (q * 4 + 1)) (c % 2 ^ 52 * 4) (i + 1)
  one t =
      record {
        below = omega arith;
        value = omega (arith, sq_odd q, four_more a i, d.value);
        small = omega (arith, d.small, d.rest);
        rest = omega arith;
        short = omega (arith, two_more i, d.short);
        fits = omega (arith, short_more, d.short);
      }

  pub none : rem * 4 + c / 2 ^ 52 < q * 4 + 1 → Digits a (q * 2) (rem * 4 + c / 2 ^ 52) (c % 2 ^ 52 * 4) (i + 1)
  none t =
      record {
        below = omega arith;
        value = omega (arith, sq_even q, four_more a i, d.value);
        small = omega arith;
        rest = omega arith;
        short = omega (arith, two_more i, d.short);
        fits = omega (arith, short_more, d.short);
      }

pub start : (a : ℕ) → a < 2 ^ 54 → Digits a 0 0 a 0
start a h = record { below = omega arith; value = omega (arith, pow_zero'); small = omega arith; rest = h; short = omega (arith, pow_two); fits = omega arith }
  where
    pow_zero' : a * 4 ^ 0 ≡ a
    pow_zero' = omega arith

    pow_two : 2 ^ 0 ≡ 1
    pow_two = refl

pub ended : {a q rem c i : ℕ} → Digits a q rem c i → 53 ≤ i → Rooted (a * 2 ^ 52) q rem
ended {a} {q} {rem} {c} {i} d h =
    let e : i ≡ 53 = omega arith in
    let v : (q * q + rem) * 2 ^ 54 + c ≡ a * 4 ^ 53 = subst (λ (k : ℕ). (q * q + rem) * 2 ^ 54 + c ≡ a * 4 ^ k) e d.value in
    record { exact = omega arith; small = d.small }

-- ---- the definition's root
record Is (n r : ℕ) : Type 0 where
  low : r * r ≤ n
  high : n < (r + 1) * (r + 1)

sq_next : (r : ℕ) → (r + 1) * (r + 1) ≡ r * r + 2 * r + 1
sq_next r = mul-add (r + 1) r 1 ∙ omega (arith, add-mul r 1 r)

sq_twice : (r : ℕ) → 2 * r * (2 * r) ≡ 4 * (r * r)
sq_twice r = simp (mul_assoc, mul_comm, mul_left_comm) (omega arith)

digit_is : (n r : ℕ) → Is (n / 4) r → Is n (root_digit n r)
unfolding root_digit
digit_is n r p = go (leb ((2 * r + 1) * (2 * r + 1)) n) (leb→le _ n) (nleb→lt _ n)
  where
    go : (b : Bool) → (T b → (2 * r + 1) * (2 * r + 1) ≤ n) → (T (not b) → n < (2 * r + 1) * (2 * r + 1)) → Is n (cond b (2 * r + 1) (2 * r))
    go true y f = record { low = y tt; high = omega (arith, sq_next r, sq_next (2 * r), sq_next (2 * r + 1), sq_twice r, p.high) }
    go false y f = record { low = omega (arith, sq_twice r, p.low); high = f tt }

isqrt_is : (k n : ℕ) → n < 4 ^ k → Is n (isqrt k n)
unfolding isqrt
isqrt_is zero n h = record { low = omega arith; high = omega arith }
isqrt_is (suc k) n h = digit_is n (isqrt k (n / 4)) (isqrt_is k (n / 4) (omega (arith, pow-suc 4 k)))

below_root : (n q r : ℕ) → q * q ≤ n → n < (r + 1) * (r + 1) → q ≤ r
below_root n q r a b = go (dec_le q r)
  where
    go : Dec (q ≤ r) → q ≤ r
    go (yes h) = h
    go (no f) = absurd (lt_irrefl n (lt_of_lt_of_le b (le_trans (mul-le-mul {n₁ = r + 1} {m₁ = r + 1} {n₂ = q} {m₂ = q} (up (lt_of_not-le f)) (up (lt_of_not-le f))) a)))
      where
        up : r < q → r + 1 ≤ q
        up h = omega arith

rooted_is : {m q r : ℕ} → Rooted m q r → Is m q
rooted_is {m} {q} {r} d = record { low = omega (arith, d.exact); high = omega (arith, d.exact, d.small, sq_next q) }

pub the_root : {m q r : ℕ} → m < 4 ^ 53 → Rooted m q r → isqrt 53 m ≡ q
the_root {m} {q} {r} h d =
    let i = isqrt_is 53 m h in
    let j = rooted_is d in
    let x : isqrt 53 m ≤ q = below_root m (isqrt 53 m) q i.low j.high in
    let y : q ≤ isqrt 53 m = below_root m q (isqrt 53 m) j.low i.high in
    omega arith

-- ---- which is nearer
compare_lt : (m n : ℕ) → m < n → compare m n ≡ Ordering.lt
compare_lt m zero h = absurd (not-suc-le-zero h)
compare_lt zero (suc n) h = compare.zero-suc n
compare_lt (suc m) (suc n) h = compare.suc-suc m n ∙ compare_lt m n (le_of_suc-le-suc h)

compare_gt : (m n : ℕ) → n < m → compare m n ≡ Ordering.gt
compare_gt zero n h = absurd (not-suc-le-zero h)
compare_gt (suc m) zero h = compare.suc-zero m
compare_gt (suc m) (suc n) h = compare.suc-suc m n ∙ compare_gt m n (le_of_suc-le-suc h)

pub stays : {m q r : ℕ} → m < 4 ^ 53 → Rooted m q r → r ≤ q → q ≡ nearest_root m
unfolding nearest_root
stays {m} {q} {r} h d l = sym (rw (the_root h d, compare_lt (4 * m) ((2 * q + 1) * (2 * q + 1)) (omega (arith, d.exact, sq_next (2 * q), sq_twice q))))

pub rises : {m q r : ℕ} → m < 4 ^ 53 → Rooted m q r → q < r → q + 1 ≡ nearest_root m
unfolding nearest_root
rises {m} {q} {r} h d l = sym (rw (the_root h d, compare_gt (4 * m) ((2 * q + 1) * (2 * q + 1)) (omega (arith, d.exact, sq_next (2 * q), sq_twice q))) (sym (add-one q)))

-- the root of a number of 105 or 106 digits has 53
pub root_low : {m q r : ℕ} → 2 ^ 104 ≤ m → Rooted m q r → 2 ^ 52 ≤ q
root_low {m} {q} {r} h d = below_root m (2 ^ 52) q h (rooted_is d).high

pub root_high : {m q r : ℕ} → m < 4 ^ 53 → Rooted m q r → q < 2 ^ 53
root_high {m} {q} {r} h d = let x : q ≤ 2 ^ 53 - 1 = below_root m q (2 ^ 53 - 1) (rooted_is d).low h in omega arith

-- the root of at most 2 ^ 106 - 2 ^ 53 is not rounded up to 2 ^ 53
pub no_carry : {a q r : ℕ} → a < 2 ^ 54 - 1 → Rooted (a * 2 ^ 52) q r → q < r → q + 1 < 2 ^ 53
no_carry {a} {q} {r} h d l = go (dec_le (q + 2) (2 ^ 53))
  where
    not_top : q ≡ 2 ^ 53 - 1 → ⊥
    not_top e = omega (arith, ap (λ (x : ℕ). x * x) e, d.exact)

    top : q < 2 ^ 53 → (q + 2 ≤ 2 ^ 53 → ⊥) → q ≡ 2 ^ 53 - 1
    top s f = omega arith

    go : Dec (q + 2 ≤ 2 ^ 53) → q + 1 < 2 ^ 53
    go (yes y) = omega arith
    go (no f) = absurd (not_top (top (root_high (omega arith) d) f))

-- ---- the number whose square is within itself of m is the nearest to the root
pub near : (m n : ℕ) → m < 4 ^ 53 → n * n < m + n → m ≤ n * n + n → n ≡ nearest_root m
near m n h low high = go (dec_le (n * n) m) n refl
  where
    go : Dec (n * n ≤ m) → (k : ℕ) → k ≡ n → n ≡ nearest_root m
    go (yes y) k e = stays {r = m - n * n} h (record { exact = omega arith; small = omega arith }) (omega arith)
    go (no f) zero e = absurd (f (omega (arith, ap (λ (x : ℕ). x * x) e)))
    go (no f) (suc k) e =
        let s : n * n ≡ k * k + 2 * k + 1 = ap (λ (x : ℕ). x * x) (sym e ∙ sym (add-one k)) ∙ sq_next k in
        let o : k * k + (m - k * k) ≡ m = omega (arith, lt_of_not-le f) in
        sym e ∙ sym (add-one k) ∙ rises {q = k} {r = m - k * k} h (record { exact = o; small = omega (arith, lt_of_not-le f) }) (omega arith)

-- and for an m of 105 or 106 digits it has 53
pub nearest_bounds : (a : ℕ) → 2 ^ 52 ≤ a → a < 2 ^ 54 - 1 → (2 ^ 52 ≤ nearest_root (a * 2 ^ 52)) × (nearest_root (a * 2 ^ 52) < 2 ^ 53)
nearest_bounds a low high =
    let m = a * 2 ^ 52 in
    let i = isqrt_is 53 m (omega arith) in
    go (isqrt 53 m) (record { exact = omega (arith, i.low); small = omega (arith, i.low, i.high, sq_next (isqrt 53 m)) }) (dec_le (m - isqrt 53 m * isqrt 53 m) (isqrt 53 m))
  where
    go : (q : ℕ) → Rooted (a * 2 ^ 52) q (a * 2 ^ 52 - q * q) → Dec (a * 2 ^ 52 - q * q ≤ q) → (2 ^ 52 ≤ nearest_root (a * 2 ^ 52)) × (nearest_root (a * 2 ^ 52) < 2 ^ 53)
    go q d (yes y) = rw (← stays {q = q} (omega arith) d y) (root_low (omega arith) d, root_high (omega arith) d)
    go q d (no f) = rw (← rises {q = q} (omega arith) d (lt_of_not-le f)) (omega (arith, root_low (omega arith) d), no_carry high d (lt_of_not-le f))

-- ---- the square of a number of two parts, and how large a product is
sum_square : (x y : ℕ) → (x + y) * (x + y) ≡ x * x + 2 * (x * y) + y * y
sum_square x y = mul-add (x + y) x y ∙ omega (arith, add-mul x y x, add-mul x y y, mul_comm y x)

square_parts : (h l : ℕ) → (h * 2 ^ 27 + l) * (h * 2 ^ 27 + l) ≡ h * h * 2 ^ 54 + h * l * 2 ^ 28 + l * l
square_parts h l =
    let s : h * 2 ^ 27 * (h * 2 ^ 27) ≡ h * h * 2 ^ 54 = mul-mul-mul_comm h (2 ^ 27) h (2 ^ 27) in
    let c : h * 2 ^ 27 * l ≡ h * l * 2 ^ 27 = mul_right_comm h (2 ^ 27) l in
    sum_square (h * 2 ^ 27) l ∙ omega arith

pub guess_square : (g : ℕ) → g * g ≡ g / 2 ^ 27 * (g / 2 ^ 27) * 2 ^ 54 + g / 2 ^ 27 * (g % 2 ^ 27) * 2 ^ 28 + g % 2 ^ 27 * (g % 2 ^ 27)
guess_square g =
    let e : g ≡ g / 2 ^ 27 * 2 ^ 27 + g % 2 ^ 27 = omega arith in
    ap (λ (x : ℕ). x * x) e ∙ square_parts (g / 2 ^ 27) (g % 2 ^ 27)

pub product_lt : (i j : ℕ) {x y : ℕ} → x < 2 ^ i → y < 2 ^ j → x * y < 2 ^ (i + j)
product_lt i j {x} {y} a b = rw pow-add (lt_of_le_of_lt (mul-le-mul_right y (le_of_lt a)) (mul-lt-mul_of_pos_left b (pow_pos i)))

-- ---- the guess g settled: r is m - g * g, and 2 ^ 56 more
module _ (a g r : ℕ) (high : a < 2 ^ 54 - 1) (e : r + g * g ≡ a * 2 ^ 52 + 2 ^ 56) where
  pub settled : r ≤ 2 ^ 56 + g → 2 ^ 56 < r + g → g ≡ nearest_root (a * 2 ^ 52)
  settled h l = near (a * 2 ^ 52) g (omega arith) (omega arith) (omega arith)

  pub settled_above : 2 ^ 56 + g < r → r ≤ 2 ^ 56 + 2 + 3 * g → g + 1 ≡ nearest_root (a * 2 ^ 52)
  settled_above h l = near (a * 2 ^ 52) (g + 1) (omega arith) (omega (arith, sq_next g)) (omega (arith, sq_next g))

  pub settled_below : 0 < g → r + g ≤ 2 ^ 56 → 2 ^ 56 + 2 < r + 3 * g → g - 1 ≡ nearest_root (a * 2 ^ 52)
  settled_below p h l = near (a * 2 ^ 52) (g - 1) (omega arith) (omega (arith, s)) (omega (arith, s))
    where
      k : g - 1 + 1 ≡ g
      k = omega arith

      s : g * g ≡ (g - 1) * (g - 1) + 2 * (g - 1) + 1
      s = ap (λ (x : ℕ). x * x) (sym k) ∙ sq_next (g - 1)

-- 1 where m is below n, else 0
pub is_one : (m n : ℕ) → m < n → from_bool (ltb m n) ≡ 1
is_one m n h = rw (lt-ltb m n h)

pub is_none : (m n : ℕ) → n ≤ m → from_bool (ltb m n) ≡ 0
is_none m n h = rw (le-ltb m n h)

pub one_at_most : (m n : ℕ) {u : ℕ} → u ≡ from_bool (ltb m n) → u ≤ 1
one_at_most m n {u} e = go (dec_le n m)
  where
    go : Dec (n ≤ m) → u ≤ 1
    go (yes h) = omega (arith, is_none m n h)
    go (no f) = omega (arith, is_one m n (lt_of_not-le f))

-- which of the three it is, by the two tests at once
pub chosen :
    (a g r u d : ℕ) → a < 2 ^ 54 - 1 → 0 < g → r + g * g ≡ a * 2 ^ 52 + 2 ^ 56
    → u ≡ from_bool (ltb (2 ^ 56 + g) r) → d ≡ from_bool (ltb (r + g) (2 ^ 56 + 1))
    → 2 ^ 56 + 2 < r + 3 * g → r ≤ 2 ^ 56 + 2 + 3 * g → g + u - d ≡ nearest_root (a * 2 ^ 52)
chosen a g r u d high p e up down low top = go (dec_le r (2 ^ 56 + g)) (dec_le (r + g) (2 ^ 56))
  where
    go : Dec (r ≤ 2 ^ 56 + g) → Dec (r + g ≤ 2 ^ 56) → g + u - d ≡ nearest_root (a * 2 ^ 52)
    go (yes h) (yes k) =
        let u0 : u ≡ 0 = up ∙ is_none (2 ^ 56 + g) r h in
        let d1 : d ≡ 1 = down ∙ is_one (r + g) (2 ^ 56 + 1) (omega arith) in
        let s : g + u - d ≡ g - 1 = omega arith in
        s ∙ settled_below a g r high e p k low
    go (yes h) (no k) =
        let l = lt_of_not-le k in
        let u0 : u ≡ 0 = up ∙ is_none (2 ^ 56 + g) r h in
        let d0 : d ≡ 0 = down ∙ is_none (r + g) (2 ^ 56 + 1) (omega arith) in
        let s : g + u - d ≡ g = omega arith in
        s ∙ settled a g r high e h l
    go (no h) k =
        let l = lt_of_not-le h in
        let u1 : u ≡ 1 = up ∙ is_one (2 ^ 56 + g) r l in
        let d0 : d ≡ 0 = down ∙ is_none (r + g) (2 ^ 56 + 1) (omega arith) in
        let s : g + u - d ≡ g + 1 = omega arith in
        s ∙ settled_above a g r high e l top

pub held : {v len a h q : ℕ} → Parted v len a h → q ≡ nearest_root (a * 2 ^ 52) → (2 ^ 52 ≤ q) × (q < 2 ^ 53)
held {a = a} p e = rw e (nearest_bounds a p.low p.high)

-- ---- what the definition says of the root: m lies strictly between the squares of n - 1/2 and n + 1/2, so there is never a tie
pub record Close (m n : ℕ) : Type 0 where
  pub below : 4 * m < (2 * n + 1) * (2 * n + 1)
  pub above : 4 * (n * n) + 1 < 4 * m + 4 * n

pub nearest_close : (m : ℕ) → 0 < m → m < 4 ^ 53 → Close m (nearest_root m)
nearest_close m p h =
    let i = isqrt_is 53 m h in
    go (isqrt 53 m) (record { exact = omega (arith, i.low); small = omega (arith, i.low, i.high, sq_next (isqrt 53 m)) }) (dec_le (m - isqrt 53 m * isqrt 53 m) (isqrt 53 m))
  where
    one : (q : ℕ) → 0 < q * q + q → 0 < q
    one zero l = absurd (lt_irrefl 0 l)
    one (suc q) l = omega arith

    go : (q : ℕ) → Rooted m q (m - q * q) → Dec (m - q * q ≤ q) → Close m (nearest_root m)
    go q d (yes y) =
        let z : 0 < q = one q (omega (arith, d.exact)) in
        rw (← stays {q = q} h d y) (record { below = omega (arith, sq_next (2 * q), sq_twice q, d.exact); above = omega (arith, d.exact) })
    go q d (no f) =
        let l : q < m - q * q = lt_of_not-le f in
        rw (← rises {q = q} h d l) (record { below = omega (arith, sq_next (2 * (q + 1)), sq_twice (q + 1), sq_next q, d.exact, d.small); above = omega (arith, sq_next q, d.exact) })
