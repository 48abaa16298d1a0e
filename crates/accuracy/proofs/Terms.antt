-- The terms of the power series at x = X / c as whole numbers: t i is x^i / i!, for i up to top, in parts of o. Sums of them, and how fast they fall. Assumes nothing.
use mathlib.Core.Path.{◌≡◌, refl, sym, ap, ◌∙◌}
use mathlib.Core.Logic.{inl, inr}
use Prim.Native.Nat.{ℕ, zero, suc, ◌+◌, ◌-◌, ◌*◌, ◌^◌, ◌≤◌, ◌<◌}
use native.Mathlib.Nat.{le_of_eq, mul-one, mul-le-mul_right, mul-le-mul_left, le_of_mul-le-mul_left, eq_of_mul-eq-mul_left, mul-pos, zero-lt-suc, pow-suc, pow-zero, eq-or-lt_of_le}
use native.Mathlib.Omega.{arith}
use mathlib.Core.Bool.{Bool, true, false}

pub record Terms (top X c o : ℕ) (t : ℕ → ℕ) : Type 0 where
  pub first : t zero ≡ o
  pub next : (i : ℕ) → i < top → c * suc i * t (suc i) ≡ X * t i

-- ---- there are such numbers: (top!/i!)·c^(top - i)·X^i

-- c^k·(i + 1)·..·(i + k)
unfoldable pub climb : ℕ → ℕ → ℕ → ℕ
climb c i zero = 1
climb c i (suc k) = c * suc i * climb c (suc i) k

abbrev pub terms_of : ℕ → ℕ → ℕ → ℕ → ℕ
terms_of top c X i = climb c i (top - i) * X ^ i

-- their unit does not depend on X
abbrev pub unit : ℕ → ℕ → ℕ
unit top c = climb c 0 top

climb_step : (c i k : ℕ) → climb c i (suc k) ≡ c * suc i * climb c (suc i) k
unfolding climb
climb_step c i k = refl

pub terms_are : (top c X : ℕ) → Terms top X c (unit top c) (terms_of top c X)
terms_are top c X =
    record {
      first = let e : top - 0 ≡ top = omega arith in ap (λ (z : ℕ). climb c 0 (top - 0) * z) (pow-zero X) ∙ mul-one (climb c 0 (top - 0)) ∙ ap (climb c 0) e;
      next = λ i h.
          let more : top - i ≡ suc (top - suc i) = omega arith in
          let e = ap (climb c i) more ∙ climb_step c i (top - suc i) in
          omega (arith, ap (λ (p : ℕ). c * suc i * climb c (suc i) (top - suc i) * p) (pow-suc X i), ap (λ (q : ℕ). X * X ^ i * q) e);
    }

climb_pos : (c : ℕ) → 0 < c → (k i : ℕ) → 0 < climb c i k
unfolding climb
climb_pos c C zero i = zero-lt-suc 0
climb_pos c C (suc k) i = mul-pos (mul-pos C (zero-lt-suc i)) (climb_pos c C k (suc i))

pub unit_pos : (top c : ℕ) → 0 < c → 0 < unit top c
unit_pos top c C = climb_pos c C top 0

-- the terms at X / c are those at X k / c k
pub unscaled : (top X c o k : ℕ) (t : ℕ → ℕ) → 0 < k → Terms top (X * k) (c * k) o t → Terms top X c o t
unscaled top X c o k t K is = record { first = is.first; next = λ i h. eq_of_mul-eq-mul_left k K (c * suc i * t (suc i)) (X * t i) (omega (arith, is.next i h)) }

-- ---- sums

-- t 0 + .. + t n
unfoldable pub sum : (ℕ → ℕ) → ℕ → ℕ
sum t zero = t zero
sum t (suc n) = t (suc n) + sum t n

-- the terms up to n of the same parity as n (false), or of the other (true)
unfoldable pub part : (ℕ → ℕ) → ℕ → Bool → ℕ
part t zero false = t zero
part t zero true = 0
part t (suc n) false = t (suc n) + part t n true
part t (suc n) true = part t n false

pub sum_parts : (t : ℕ → ℕ) (n : ℕ) → sum t n ≡ part t n false + part t n true
unfolding sum part
sum_parts t zero = omega arith
sum_parts t (suc n) = omega (arith, sum_parts t n)

pub sum_mono : (t : ℕ → ℕ) (m n : ℕ) → m ≤ n → sum t m ≤ sum t n
unfolding sum
sum_mono t m zero h = let z : m ≡ 0 = omega arith in le_of_eq (ap (sum t) z)
sum_mono t m (suc n) h =
    elim (eq-or-lt_of_le h) [
      | inl e ↦ le_of_eq (ap (sum t) e)
      | inr g ↦ omega (arith, sum_mono t m n (omega arith))
    ]

-- ---- the first term is 1, and how a term stands to the next
module _ {top X c o : ℕ} {t : ℕ → ℕ} (C : 0 < c) (is : Terms top X c o t) where
  pub one_in : (n : ℕ) → o ≤ sum t n
  unfolding sum
  one_in zero = omega (arith, is.first)
  one_in (suc n) = omega (arith, one_in n)

  pub no_greater : (i : ℕ) → i < top → X ≤ c * suc i → t (suc i) ≤ t i
  no_greater i u h = let g : c * suc i * t (suc i) ≤ c * suc i * t i = omega (arith, is.next i u, mul-le-mul_right (t i) h) in le_of_mul-le-mul_left g (mul-pos C (zero-lt-suc i))

  pub no_less : (i : ℕ) → i < top → c * suc i ≤ X → t i ≤ t (suc i)
  no_less i u h = let g : c * suc i * t i ≤ c * suc i * t (suc i) = omega (arith, is.next i u, mul-le-mul_right (t i) h) in le_of_mul-le-mul_left g (mul-pos C (zero-lt-suc i))

  -- from m on, with 2 X at most c·(m + 1), each is at most half of the one before, so that all after m together are at most that at m
  pub tail : (m n : ℕ) → 2 * X ≤ c * suc m → m ≤ n → n ≤ top → sum t n + t n ≤ sum t m + t m
  unfolding sum
  tail m zero h l u = let z : m ≡ 0 = omega arith in le_of_eq (ap (λ (i : ℕ). sum t i + t i) (sym z))
  tail m (suc n) h l u =
      elim (eq-or-lt_of_le l) [
        | inl e ↦ le_of_eq (ap (λ (i : ℕ). sum t i + t i) (sym e))
        | inr g ↦
            let m-n : m ≤ n = omega arith in
            let half : c * suc n * (2 * t (suc n)) ≤ c * suc n * t n = omega (arith, is.next n u, mul-le-mul_right (t n) h, mul-le-mul_right (t n) (mul-le-mul_left c m-n)) in
            omega (arith, le_of_mul-le-mul_left half (mul-pos C (zero-lt-suc n)), tail m n h m-n (omega arith))
      ]
