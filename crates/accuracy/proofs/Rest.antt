-- The rest of v in numbers: how large K ln 2 - |v| is between the ends of the v with one K, and how near two rounded sums are to it.
use mathlib.Core.Path.{◌≡◌, ap}
use Prim.Native.Nat.{ℕ, ◌+◌, ◌-◌, ◌*◌, ◌≤◌, ◌<◌}
use native.Mathlib.Nat.{mul-pos, mul-le-mul_right, le_of_mul-le-mul_right}
use native.Mathlib.Omega.{arith}
use mathlib.Core.Bool.{Bool, true, false}
use Rattle.real.proofs.SignedOrder.{P, N, SLe}
use Rattle.accuracy.proofs.Close.{Within, times, cancel}

-- ---- ±a / v, which is at most 0, lies between ±m / d and ±n / e: so a / v is near k / c
before : (σ s : Bool) (a d m v : ℕ) → SLe σ (a * 1) false (0 * v) → SLe s (m * v) σ (a * d) → a * d ≤ N s m * v
before true true a d m v z h = omega arith
before true false a d m v z h = omega arith
before false s a d m v z h = let y : a ≤ 0 = omega arith in omega (arith, mul-le-mul_right d y)

after : (σ s : Bool) (a e n v : ℕ) → SLe σ (a * e) s (n * v) → N s n * v ≤ a * e
after true true a e n v h = omega arith
after false true a e n v h = omega arith
after σ false a e n v h = omega arith

pub ends : (σ s t : Bool) (a v m d n e k c : ℕ) → 0 < d → 0 < e → SLe σ (a * 1) false (0 * v) → SLe s (m * v) σ (a * d) → SLe σ (a * e) t (n * v)
    → N s m * (c * 100) ≤ (k * 100 + 36 * c) * d → k * 100 * e ≤ (N t n * 100 + 36 * e) * c → Within (36 * (c * v)) (100 * (k * v)) (100 * (a * c))
ends σ s t a v m d n e k c dd ee z f g h i =
    let p : 100 * (a * c) * d ≤ (100 * (k * v) + 36 * (c * v)) * d = omega (arith, mul-le-mul_right (c * 100) (before σ s a d m v z f), mul-le-mul_right v h) in
    let q : 100 * (k * v) * e ≤ (100 * (a * c) + 36 * (c * v)) * e = omega (arith, mul-le-mul_right (c * 100) (after σ t a e n v g), mul-le-mul_right v i) in
    record { over = le_of_mul-le-mul_right q ee; under = le_of_mul-le-mul_right p dd }

pub apart : (x y c : ℕ) → Within (36 * c) (100 * x) (100 * y) → (x - y + (y - x)) * 100 ≤ c * 36
apart x y c h = omega arith

-- ---- p - n units are -y / c, and h + l units are near x / c, all times c: two sums, each rounded, are near (x - y) / c
pub record Reduced (U E c x y h l p n : ℕ) : Type 0 where
  some : 0 < c
  value : (p * c ≡ 0) × (n * c ≡ y * U)
  both : Within (c * E) (2 * ((h + l) * c)) (2 * (x * U))
  small : Within (36 * c * U) (100 * x * U) (100 * y * U)
  low : l * 100 * c ≤ U * c
  fine : 100 * E * c ≤ U * c

minus_units : (σ : Bool) (U a v n c : ℕ) → SLe σ (a * 1) false (0 * v) → a * U ≡ n * v → (P σ n * (c * v) ≡ 0) × (N σ n * (c * v) ≡ a * c * U)
minus_units true U a v n c z e = omega (arith, ap (λ (i : ℕ). i * c) e)
minus_units false U a v n c z e = let y : a ≤ 0 = omega arith in omega (arith, mul-le-mul_right (U * c) y, ap (λ (i : ℕ). i * c) e)

pub reduced : (σ : Bool) (U E c k a v h l n : ℕ) → 0 < U → 0 < c * v → SLe σ (a * 1) false (0 * v) → a * U ≡ n * v
    → (2 * ((h + l) * c) ≤ 2 * (k * U) + E * c) × (2 * (k * U) ≤ 2 * ((h + l) * c) + E * c)
    → Within (36 * (c * v)) (100 * (k * v)) (100 * (a * c)) → l * 100 ≤ U → 100 * E ≤ U → Reduced U E (c * v) (k * v) (a * c) h l (P σ n) (N σ n)
reduced σ U E c k a v h l n u cc z e b s f g =
    omega (arith, mul-pos u cc, minus_units σ U a v n c z e, mul-le-mul_right v b.0, mul-le-mul_right v b.1, times U s, mul-le-mul_right (c * v) f, mul-le-mul_right (c * v) g)

module _ {U E c x y h l p n : ℕ} (t : Reduced U E c x y h l p n) where
  pub first_small : Within U (p + h) (n + 0)
  first_small = cancel t.some (omega arith)

  pub second_small : (p1 n1 : ℕ) → Within E (p1 + (n + 0)) (n1 + (p + h)) → Within U (p1 + l) (n1 + 0)
  second_small p1 n1 w = cancel t.some (omega (arith, times c w))

  pub sums_near : (p1 n1 p2 n2 : ℕ) → Within E (p1 + (n + 0)) (n1 + (p + h)) → Within E (p2 + (n1 + 0)) (n2 + (p1 + l)) → Within (3 * (E * c)) (p2 * c + (y - x) * U) (n2 * c + (x - y) * U)
  sums_near p1 n1 p2 n2 w w' = let m : x - y + y ≡ y - x + x = omega arith in omega (arith, times c w, times c w', ap (λ (z : ℕ). z * U) m)
