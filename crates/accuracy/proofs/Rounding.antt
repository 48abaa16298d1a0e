-- How far `round` goes from a fraction below 2: at most E units, that is 2^-53.
use mathlib.Core.Path.{◌≡◌, sym, subst}
use Prim.Native.Nat.{ℕ, ◌+◌, ◌-◌, ◌*◌, ◌/◌, ◌%◌, ◌^◌, ◌≤◌, ◌<◌, compare, Ordering}
use native.Mathlib.Nat.{le_of_lt, lt_of_le_of_lt, mul-le-mul_right, mul-le-mul_left, mul-lt-mul_of_pos_right, le_of_mul-le-mul_right, mul-pos, div-add-mod', mod-lt, div-lt_iff_lt-mul}
use native.Mathlib.Omega.{arith}
use mathlib.Core.Bool.{Bool, not}
use lib.Dec.{T, is_le, compare_is_eq, leb→le, nleb→lt, eqb→eq, lit<, lit≤}
use lib.Pow.{pow_pos, pow_mono}
use lib.Ieee.{Float, binary64, nearest, size, round}
use lib.Ieee.Digits.{size-le}
use lib.Ieee.Exact.{HasValue, units_val}
use lib.Ieee.Fits.{round_is}
use lib.Ieee.Nearest.{closest}
use lib.Ieee.Order.{drop, kept}
use Rattle.accuracy.proofs.Close.{Within}
use Rattle.accuracy.proofs.Nested.{U, E}

pub u_pos : 0 < U
u_pos = pow_pos 1074

pub e_small : 100 * E ≤ U
e_small = lit≤ tt

-- the nearest whole number is within a half
nearest_within : (q r b a : ℕ) (o : Ordering) → (T (is_le o) → r * 2 ≤ b) → (T (not (is_le o)) → b < r * 2) → (T (compare_is_eq o) → r * 2 ≡ b) → r < b → q * b + r ≡ a
    → Within b (2 * (nearest q o * b)) (2 * a)
nearest_within q r b a Ordering.lt f g h l e = let k = f tt in omega arith
nearest_within q r b a Ordering.eq f g h l e = let k = h tt in let bit : q % 2 ≤ 1 = omega arith in omega (arith, mul-le-mul_right b bit)
nearest_within q r b a Ordering.gt f g h l e = let k = g tt in omega arith

closest_within : (a b : ℕ) → 0 < b → Within b (2 * (closest a b * b)) (2 * a)
closest_within a b B =
    let r = a % b in
    nearest_within (a / b) r b a (compare (r * 2) b) (leb→le (r * 2) b) (nleb→lt (r * 2) b) (eqb→eq (r * 2) b) (mod-lt a B) (div-add-mod' a b)

-- at most 1022 binary digits are dropped
drop_le : (a c : ℕ) → 0 < c → a < 2 * c → drop 53 (a * U) c ≤ 1022
drop_le a c C h = few (size (a * U / c)) (size-le (a * U / c) 1075 ((div-lt_iff_lt-mul C).1 (below a c U (mul-lt-mul_of_pos_right h u_pos))))
  where
    few : (z : ℕ) → z ≤ 1075 → z - 53 ≤ 1022
    few z h = omega arith

    below : (a c u : ℕ) → a * u < 2 * c * u → a * u < 2 * u * c
    below a c u h = omega arith

pub round_near : (s : Bool) (a c : ℕ) → 0 < c → a < 2 * c → (g : ℕ) × HasValue (round binary64 s a c) s g U × Within (c * E) (g * c) (a * U)
round_near s a c C h =
    let n = a * U in
    let d = drop 53 n c in
    let g = closest n (c * 2 ^ d) * 2 ^ d in
    let w = halved n c (2 ^ d) (closest n (c * 2 ^ d)) E (pow_mono (drop_le a c C h)) (closest_within n (c * 2 ^ d) (mul-pos C (pow_pos d))) in
    let small : g < 2 ^ 2098 = lt_of_le_of_lt (least g a c U E C h w) (lit< tt) in
    (g, subst (λ (x : Float). HasValue x s g U) (sym (round_is binary64 s a c)) (units_val binary64 s (kept 53 n c) d small), w)
  where
    halved : (n c p k e : ℕ) → p ≤ 2 * e → Within (c * p) (2 * (k * (c * p))) (2 * n) → Within (c * e) (k * p * c) n
    halved n c p k e v w = omega (arith, mul-le-mul_left c v)

    least : (g a c u e : ℕ) → 0 < c → a < 2 * c → Within (c * e) (g * c) (a * u) → g ≤ 2 * u + e
    least g a c u e C h w = let f : g * c ≤ (2 * u + e) * c = omega (arith, mul-le-mul_right u (le_of_lt h)) in le_of_mul-le-mul_right f C
