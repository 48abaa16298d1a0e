-- Floats in units of 2^-1074: the value of one, the order of two, and how far a product, a quotient and a sum are rounded.
use mathlib.Core.Path.{◌≡◌, refl, sym, ap, ◌∙◌, subst}
use mathlib.Core.Logic.{inl, inr}
use Prim.Native.Nat.{ℕ, ◌+◌, ◌-◌, ◌*◌, ◌^◌, ◌≤◌, ◌<◌}
use native.Mathlib.Nat.{lt_of_le_of_lt, lt_of_lt_of_le, mul-pos, mul-one, mul_assoc, mul_right_comm}
use native.Mathlib.Nat.{mul-le-mul_left, mul-lt-mul_of_pos_right, lt_of_mul-lt-mul_right, eq_of_mul-eq-mul_right}
use native.Mathlib.Omega.{arith}
use mathlib.Core.Bool.{Bool, true, false}
use lib.Dec.{T, lit<}
use lib.Pow.{pow_pos, pow-add, pow_mono, shl_lt}
use lib.Ieee.{Float, nan, inf, fin, binary64, up, down, add, mul, div, le, round, fits}
use lib.Ieee.Digits.{back}
use lib.Ieee.Exact.{HasValue, round_exact}
use lib.Ieee.Scale.{finite, round_same}
use lib.Ieee.Order.{transfer}
use lib.Ieee.Positive.{num, den, den_pos}
use Rattle.real.proofs.SignedOrder.{P, N, sgn, le→sle, mul_opened, div_opened, sum_is, add_opened, here_or_on, unlike_false}
use Rattle.real.proofs.Values.{fits_parts, in_units_lem}
use Rattle.accuracy.proofs.Nested.{U, E}
use Rattle.accuracy.proofs.Close.{Within, times, cancel}
use Rattle.accuracy.proofs.Rounding.{u_pos, round_near}

-- the value of a float, as a cross product
pub cross : (x : Float) (s : Bool) (a c : ℕ) → HasValue x s a c → (num x * c ≡ a * den x) × (sgn x ≡ s) × T (finite x)
cross nan s a c h = absurd h
cross (inf t) s a c h = absurd h
cross (fin t m e) s a c h = (h.1, h.0, tt)

-- the order of two that are not negative
pub le_units : (x y : Float) (a c b d : ℕ) → HasValue x false a c → HasValue y false b d → T (le x y) → a * d ≤ b * c
le_units x y a c b d vx vy h =
    let X = cross x false a c vx in
    let Y = cross y false b d vy in
    transfer a b c d (num x) (num y) (den x) (den y) (den_pos x) (den_pos y) (sym X.0) (sym Y.0) (omega (arith, rw (X.1, Y.1) at (le→sle x y X.2 Y.2 h)))

-- a float that fits is m times a power of two units
pub units_of : (v : Float) → T (fits binary64 v) → T (finite v) → (m : ℕ) × (j : ℕ) × (m < 2 ^ 53) × HasValue v (sgn v) (m * 2 ^ j) U
units_of nan F f = absurd f
units_of (inf s) F f = absurd f
units_of (fin s m e) F f =
    let p = fits_parts binary64 s m e F in
    let w = in_units_lem 1074 e p.1 in
    (m, w.0, p.0, (refl, scaled m (up e) (2 ^ w.0) (down e) U w.1))
  where
    scaled : (m a p d u : ℕ) → a * u ≡ p * d → m * a * u ≡ m * p * d
    scaled m a p d u h = omega (arith, ap (λ (z : ℕ). m * z) h)

-- a / j units, rounded
round_over : (s : Bool) (a j : ℕ) → 0 < j → a < 2 * (j * U) → (g : ℕ) × HasValue (round binary64 s a (j * U)) s g U × Within (j * E) (g * j) a
round_over s a j J l = let w = round_near s a (j * U) (mul-pos J u_pos) l in (w.0, w.1, shrunk j U E w.0 a u_pos w.2)
  where
    shrunk : (j u e g a : ℕ) → 0 < u → Within (j * u * e) (g * (j * u)) (a * u) → Within (j * e) (g * j) a
    shrunk j u e g a p w = cancel p (omega arith)

-- the product, where y is not negative
mul_is : (x y : Float) (σ : Bool) (a c b d : ℕ) → 0 < c → 0 < d → HasValue x σ a c → HasValue y false b d → mul binary64 x y ≡ round binary64 σ (a * b) (c * d)
mul_is x y σ a c b d C D hx hy =
    let X = cross x σ a c hx in
    let Y = cross y false b d hy in
    rw (mul_opened binary64 x y X.2 Y.2, X.1, Y.1, unlike_false σ)
    (round_same binary64 σ (num x * num y) (den x * den y) (a * b) (c * d) (mul-pos (den_pos x) (den_pos y)) (mul-pos C D) (product (num x) (num y) c d a b (den x) (den y) X.0 Y.0))
  where
    product : (m n u w a b c d : ℕ) → m * u ≡ a * c → n * w ≡ b * d → m * n * (u * w) ≡ a * b * (c * d)
    product m n u w a b c d e f = omega (arith, ap (λ (z : ℕ). z * (n * w)) e, ap (λ (z : ℕ). z * (a * c)) f)

pub mul_near : (x y : Float) (σ : Bool) (a b : ℕ) → HasValue x σ a U → HasValue y false b U → a * b < 2 * (U * U) → (m : ℕ) × HasValue (mul binary64 x y) σ m U × Within (U * E) (m * U) (a * b)
mul_near x y σ a b hx hy l = let w = round_over σ (a * b) U u_pos l in (w.0, rw (mul_is x y σ a U b U u_pos u_pos hx hy) w.1, w.2)

-- the product by 2^-k is exact, for s from 1/2 to 3/2 and k up to 1021
pub exact : (s p : Float) (S k : ℕ) → T (fits binary64 s) → HasValue s false S U → U ≤ 2 * S → S * 2 ≤ 3 * U → k ≤ 1021 → HasValue p false 1 (2 ^ k)
    → HasValue (mul binary64 s p) false S (U * 2 ^ k)
exact s p S k F v low high k1 vp =
    let X = cross s false S U v in
    let w = units_of s F X.2 in
    let m = w.0 in
    let j = w.1 in
    let is : S ≡ m * 2 ^ j = eq_of_mul-eq-mul_right (den s) (den_pos s) S (m * 2 ^ j) (sym X.0 ∙ (cross s (sgn s) (m * 2 ^ j) U w.3).0) in
    let deep : k ≤ j =
    elim (here_or_on j k) [
      | inl h ↦ absurd (shallow S (2 ^ 1073) (rw is (lt_of_lt_of_le (shl_lt 53 j w.2) (pow_mono {i = 53 + j} {j = 1073} (omega arith)))) low)
      | inr h ↦ h
    ] in
    let g = m * 2 ^ (j - k) in
    let cut : S ≡ g * 2 ^ k = is ∙ ap (λ (i : ℕ). m * 2 ^ i) (sym (back j k deep)) ∙ ap (λ (z : ℕ). m * z) (pow-add 2 (j - k) k) ∙ sym (mul_assoc m (2 ^ (j - k)) (2 ^ k)) in
    let fine = lt_of_le_of_lt (small g S (2 ^ k) U (pow_pos k) cut high) (lit< {m = 2 * U} {n = 2 ^ 2098} tt) in
    let same = ap (λ (z : ℕ). z * U) cut ∙ mul_right_comm g (2 ^ k) U ∙ mul_assoc g U (2 ^ k) in
    rw (mul_is s p false S U 1 (2 ^ k) u_pos (pow_pos k) v vp, mul-one S)
    (round_exact binary64 false S (U * 2 ^ k) m (j - k) (mul-pos u_pos (pow_pos k)) w.2 fine same)
  where
    shallow : (x h : ℕ) → x < h → 2 * h ≤ 2 * x → ⊥
    shallow x h l m = omega arith

    small : (g S p u : ℕ) → 0 < p → S ≡ g * p → S * 2 ≤ 3 * u → g ≤ 2 * u
    small g S p u pp e h = omega (arith, mul-le-mul_left g pp)

-- the quotient by a whole number j
pub div_near : (x y : Float) (σ : Bool) (a j : ℕ) → HasValue x σ a U → HasValue y false j 1 → 0 < j → a < 2 * (j * U) → (q : ℕ) × HasValue (div binary64 x y) σ q U × Within (j * E) (q * j) a
div_near x y σ a j hx hy jj l =
    let X = cross x σ a U hx in
    let Y = cross y false j 1 hy in
    let n : 0 < num y = subst (λ (z : ℕ). 0 < z) (sym Y.0 ∙ mul-one (num y)) (mul-pos jj (den_pos y)) in
    let same = round_same binary64 σ (num x * den y) (num y * den x) a (j * U) (mul-pos n (den_pos x)) (mul-pos jj u_pos) (quotient (num x) (num y) U a j (den x) (den y) X.0 Y.0) in
    let w = round_over σ a j jj l in
    (w.0, rw (div_opened binary64 x y X.2 Y.2 n, X.1, Y.1, unlike_false σ, same) w.1, w.2)
  where
    quotient : (m n u a j c d : ℕ) → m * u ≡ a * c → n * 1 ≡ j * d → m * d * (j * u) ≡ a * (n * c)
    quotient m n u a j c d e f = omega (arith, ap (λ (z : ℕ). z * (d * j)) e, ap (λ (z : ℕ). z * (a * c)) f)

-- the sum, with its sign: p - n units, rounded
abbrev pub Sum : Float → ℕ → ℕ → Type 0
Sum w p n = (τ : Bool) × (z : ℕ) × HasValue w τ z U × Within E (P τ z + n) (N τ z + p)

parts : (s : Bool) (m d u a e : ℕ) → m * u ≡ a * e → (P s (m * d) * u ≡ P s a * (e * d)) × (N s (m * d) * u ≡ N s a * (e * d))
parts true m d u a e h = omega (arith, ap (λ (z : ℕ). z * d) h)
parts false m d u a e h = omega (arith, ap (λ (z : ℕ). z * d) h)

pub add_near : (x y : Float) (s t : Bool) (a b g : ℕ) → HasValue x s a U → HasValue y t b U → g < 2 * U → Within g (P s a + P t b) (N s a + N t b)
    → Sum (add binary64 x y) (P s a + P t b) (N s a + N t b)
add_near x y s t a b g hx hy h k =
    let X = cross x s a U hx in
    let Y = cross y t b U hy in
    let c = den x * den y in
    let C : 0 < c = mul-pos (den_pos x) (den_pos y) in
    let S = sum_is binary64 s t (num x * den y) (num y * den x) c in
    let τ = S.0 in
    let z = S.1 in
    let is : add binary64 x y ≡ round binary64 τ z c = add_opened binary64 x y X.2 Y.2 ∙ rw (X.1, Y.1) S.2 in
    let p = P s a + P t b in
    let n = N s a + N t b in
    let e = scaled τ s t z (num x) (num y) (den x) (den y) U a b X.0 Y.0 S.3 in
    let w = round_near τ z c C (small τ z n p U c g C e h k) in
    (τ, w.0, rw is w.1, near τ w.0 z n p U c E C e w.2)
  where
    scaled : (τ s t : Bool) (z m n d e u a b : ℕ) → m * u ≡ a * d → n * u ≡ b * e → P τ z + (N s (m * e) + N t (n * d)) ≡ N τ z + (P s (m * e) + P t (n * d))
        → P τ z * u + (N s a + N t b) * (d * e) ≡ N τ z * u + (P s a + P t b) * (d * e)
    scaled τ s t z m n d e u a b f g h = omega (arith, parts s m e u a d f, parts t n d u b e g, ap (λ (i : ℕ). i * u) h)

    small : (τ : Bool) (z n p u c g : ℕ) → 0 < c → P τ z * u + n * c ≡ N τ z * u + p * c → g < 2 * u → Within g p n → z < 2 * c
    small true z n p u c g C e h k = let q : z * u < 2 * c * u = omega (arith, times c k, mul-lt-mul_of_pos_right h C) in lt_of_mul-lt-mul_right u q
    small false z n p u c g C e h k = let q : z * u < 2 * c * u = omega (arith, times c k, mul-lt-mul_of_pos_right h C) in lt_of_mul-lt-mul_right u q

    near : (τ : Bool) (g z n p u c e : ℕ) → 0 < c → P τ z * u + n * c ≡ N τ z * u + p * c → Within (c * e) (g * c) (z * u) → Within e (P τ g + n) (N τ g + p)
    near true g z n p u c e C h w = cancel C (omega arith)
    near false g z n p u c e C h w = cancel C (omega arith)
