-- What is left of the bound once the sums are known to be near: inequalities of whole numbers. Assumes nothing.
-- o is the unit of the sums, U that of S, E = 2^-53·U, and p is 2^k. t is a sum at x, y one at |x - k·L|, b one at k·L; z is a difference of sums at -x or at -|x - k·L|.
use mathlib.Core.Path.{◌≡◌, ap}
use Prim.Native.Nat.{ℕ, ◌+◌, ◌-◌, ◌*◌, ◌^◌, ◌≤◌, ◌<◌}
use native.Mathlib.Nat.{mul-le-mul_right, mul-le-mul_left, le_of_mul-le-mul_left}
use native.Mathlib.Omega.{arith}
use lib.Dec.{T, leb, leb→le, ltb→lt, lit≤}
use Rattle.accuracy.specs.PowerSeries.{parts}
use Rattle.accuracy.proofs.Doubling.{H}

-- ---- t·S is at most 2^k·(1 + 24·2^-53)

pub past_above : (t y z S o U E p : ℕ) → 0 < o → o * t ≤ p * o * y → S * o ≤ U * z + 12 * (E * o) → z * y ≤ o * o → y ≤ 2 * o → t * S ≤ p * ((U + 24 * E) * o)
past_above t y z S o U E p O a b d e =
    let f : o * (y * S) ≤ o * ((U + 24 * E) * o) = omega (arith, mul-le-mul_left y b, mul-le-mul_left U d, mul-le-mul_left (12 * (E * o)) e) in
    let g : y * S ≤ (U + 24 * E) * o = le_of_mul-le-mul_left f O in
    let h : o * (t * S) ≤ o * (p * ((U + 24 * E) * o)) = omega (arith, mul-le-mul_right S a, mul-le-mul_left (p * o) g) in
    le_of_mul-le-mul_left h O

pub before_above : (t y S o U E p : ℕ) → 0 < o → t * y ≤ o * (p * o) → S * o ≤ U * y + 12 * (E * o) → o ≤ y → t * S ≤ p * ((U + 24 * E) * o)
before_above t y S o U E p O a b d =
    let s : S * o ≤ (U + 24 * E) * y = omega (arith, mul-le-mul_left E d) in
    let h : o * (t * S) ≤ o * (p * ((U + 24 * E) * o)) = omega (arith, mul-le-mul_left t s, mul-le-mul_left (U + 24 * E) a) in
    le_of_mul-le-mul_left h O

-- ---- and at least 2^k·(1 - 27·2^-53), but for g in place of h

abbrev pub Beneath : ℕ → ℕ → ℕ → ℕ → ℕ → Type 0
Beneath g h p u w = 2 ^ 53 * (p * g * u) ≤ (2 ^ 53 + 27) * (h * w)

-- f is 2^53
scarce : (f E u w : ℕ) → 1000 ≤ f → u ≡ f * E → u ≤ w + 26 * E → f * u ≤ (f + 27) * w
scarce f E u w l e h =
    let a : 702 * E ≤ u = omega (arith, mul-le-mul_right E l) in
    omega (arith, mul-le-mul_left f h)

pub past_beneath : (t b y z l S o U E p g h : ℕ) → 0 < o → U ≡ 2 ^ 53 * E
    → b * y ≤ o * t → p * g * o ≤ h * b → o * o ≤ (z + l) * y → U * z ≤ S * o + 12 * (E * o) → 4 * (U * l) ≤ E * o → y ≤ 2 * o
    → Beneath g h p (U * o) (t * S)
past_beneath t b y z l S o U E p g h O u a d e i j m =
    let k : o * (U * o) ≤ o * (y * S + 26 * (E * o)) = omega (arith, mul-le-mul_left U e, mul-le-mul_right y i, mul-le-mul_right y j, mul-le-mul_left (E * o) m) in
    let n = scarce (2 ^ 53) (E * o) (U * o) (y * S) (lit≤ tt) (unit (2 ^ 53) U E o u) (le_of_mul-le-mul_left k O) in
    le_of_mul-le-mul_left (end (2 ^ 53) (2 ^ 53 + 27) t b y S o (U * o) p g h n a d) O
  where
    unit : (f U E o : ℕ) → U ≡ f * E → U * o ≡ f * (E * o)
    unit f U E o e = omega (arith, ap (λ (i : ℕ). i * o) e)

    end : (f f' t b y S o u p g h : ℕ) → f * u ≤ f' * (y * S) → b * y ≤ o * t → p * g * o ≤ h * b → o * (f * (p * g * u)) ≤ o * (f' * (h * (t * S)))
    end f f' t b y S o u p g h n a d = omega (arith, mul-le-mul_right (f * u) d, mul-le-mul_left (h * b) n, mul-le-mul_left (f' * h * S) a)

pub before_beneath : (t b y S o U E p g h : ℕ) → 0 < o → U ≡ 2 ^ 53 * E
    → o * b ≤ t * y → p * g * o ≤ h * b → U * y ≤ S * o + 13 * (E * o) → U ≤ 2 * S → Beneath g h p (U * o) (t * S)
before_beneath t b y S o U E p g h O u a d e i =
    let k : o * (U * b) ≤ o * (t * (S + 13 * E)) = omega (arith, mul-le-mul_left U a, mul-le-mul_left t e) in
    end (2 ^ 53) (2 ^ 53 + 27) t b S o U E p g h (le_of_mul-le-mul_left k O) (close U S E u i) d
  where
    close : (U S E : ℕ) → U ≡ 2 ^ 53 * E → U ≤ 2 * S → 2 ^ 53 * (S + 13 * E) ≤ (2 ^ 53 + 27) * S
    close U S E u i = omega arith

    end : (f f' t b S o U E p g h : ℕ) → U * b ≤ t * (S + 13 * E) → f * (S + 13 * E) ≤ f' * S → p * g * o ≤ h * b → f * (p * g * (U * o)) ≤ f' * (h * (t * S))
    end f f' t b S o U E p g h k n d = omega (arith, mul-le-mul_right (f * U) d, mul-le-mul_left (f * h) k, mul-le-mul_left (h * t) n)

-- ---- from t to z, the sum at -x: z·t is at least 1, or at most 1

pub even_end : (z t S o p U E : ℕ) → 0 < o → U ≡ 2 ^ 53 * E → o * o ≤ z * t → t * S ≤ p * ((U + 24 * E) * o) → (parts - 1) * (o * S) ≤ parts * (z * (p * U))
even_end z t S o p U E O u a b =
    let k : o * (o * S) ≤ o * (z * (p * (U + 24 * E))) = omega (arith, mul-le-mul_right S a, mul-le-mul_left z b) in
    end (parts - 1) parts z S o p U E (le_of_mul-le-mul_left k O) (close U E u)
  where
    close : (U E : ℕ) → U ≡ 2 ^ 53 * E → (parts - 1) * (U + 24 * E) ≤ parts * U
    close U E u = omega arith

    end : (f f' z S o p U E : ℕ) → o * S ≤ z * (p * (U + 24 * E)) → f * (U + 24 * E) ≤ f' * U → f * (o * S) ≤ f' * (z * (p * U))
    end f f' z S o p U E k n = omega (arith, mul-le-mul_left f k, mul-le-mul_left (z * p) n)

slack_test : T (leb (parts * ((2 ^ 53 + 27) * H)) ((parts + 1) * (2 ^ 53 * (H - 1022))))
slack_test = tt

pub odd_end : (z t S o p U : ℕ) → 0 < o → z * t ≤ o * o → Beneath (H - 1022) H p (U * o) (t * S) → parts * (z * (p * U)) ≤ (parts + 1) * (o * S)
odd_end z t S o p U O a b =
    end (2 ^ 53) (2 ^ 53 + 27) (H - 1022) H parts (parts + 1) z t S o p U (ltb→lt 0 (2 ^ 53 * (H - 1022)) tt) O a b
    (leb→le (parts * ((2 ^ 53 + 27) * H)) ((parts + 1) * (2 ^ 53 * (H - 1022))) slack_test)
  where
    end : (f f' g h q q' z t S o p U : ℕ) → 0 < f * g → 0 < o → z * t ≤ o * o
        → f * (p * g * (U * o)) ≤ f' * (h * (t * S)) → q * (f' * h) ≤ q' * (f * g) → q * (z * (p * U)) ≤ q' * (o * S)
    end f f' g h q q' z t S o p U F O a b n =
        let k : o * (f * g * (z * (p * U))) ≤ o * (f' * h * (o * S)) = omega (arith, mul-le-mul_left z b, mul-le-mul_left (f' * h * S) a) in
        let l : f * g * (q * (z * (p * U))) ≤ f * g * (q' * (o * S)) = omega (arith, mul-le-mul_left q (le_of_mul-le-mul_left k O), mul-le-mul_right (o * S) n) in
        le_of_mul-le-mul_left l F
