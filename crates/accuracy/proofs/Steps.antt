-- The steps of exp, in floats, stay within 12 · 2^-53 of the exact ones, for a rest within 3 · 2^-53 of the exact one.
use mathlib.Core.Path.{◌≡◌, refl, sym, ◌∙◌}
use Prim.Native.Nat.{ℕ, zero, suc, ◌+◌, ◌*◌, ◌^◌, ◌≤◌, ◌<◌}
use native.Mathlib.Nat.{zero-lt-suc, mul-pos, mul-le-mul, mul-le-mul_right, mul-le-mul_left, le_of_mul-le-mul_right}
use native.Mathlib.Omega.{arith}
use mathlib.Core.List.{List, ◌∷◌}
use mathlib.Core.Bool.{Bool, true, false, ◌&&◌}
use lib.IntN.{pos}
use lib.Dec.{T, leb, leb→le}
use lib.Ieee.{Float, binary64, add, mul, div, neg, of_int, le, round}
use lib.Ieee.Exact.{HasValue}
use lib.Ieee.Fits.{and_l, and_r}
use lib.Ieee.Scale.{finite}
use Rattle.real.proofs.SignedOrder.{P, N, natural, nat_sgn, le_tr}
use Rattle.real.proofs.Counts.{count_value}
use Rattle.real.specs.Reals.{magnitude}
use Rattle.real.proofs.Closed.{one}
use Rattle.elementary.specs.Exp.{exp_step, exp_steps}
use Rattle.elementary.specs.Ln.{three_halves}
use Rattle.elementary.proofs.StepsRange.{step_tests, upper, step_in, step_nat, step_is, steps_is, steps_zero, R35-nat}
use Rattle.exponent_table.proofs.Tests.{allb, all→}
use Rattle.exponent_table.proofs.Table.{R35}
use Rattle.accuracy.proofs.Nested.{U, E, nested_over, nested, Near}
use Rattle.accuracy.proofs.Close.{Within, times, cancel}
use Rattle.accuracy.proofs.Rounding.{u_pos, e_small}
use Rattle.accuracy.proofs.Units.{cross, le_units, mul_near, div_near, add_near, Sum}

-- ---- one step in numbers: how large the rest R, the product m and the quotient q are
rest_size : (σ : Bool) (U E c R p q : ℕ) → 0 < c → 100 * E ≤ U → Within (3 * (E * c)) (P σ R * c + q * U) (N σ R * c + p * U) → (p + q) * 100 ≤ c * 36 → R * 100 ≤ 39 * U
rest_size true U E c R p q C e w h = let f : R * 100 * c ≤ 39 * U * c = omega (arith, mul-le-mul_right c e, mul-le-mul_right U h) in le_of_mul-le-mul_right f C
rest_size false U E c R p q C e w h = let f : R * 100 * c ≤ 39 * U * c = omega (arith, mul-le-mul_right c e, mul-le-mul_right U h) in le_of_mul-le-mul_right f C

product_small : (U R S : ℕ) → 0 < U → R * 100 ≤ 39 * U → S * 2 ≤ 3 * U → (100 * (R * S) ≤ 59 * (U * U)) × (R * S < 2 * (U * U))
product_small U R S u r s = let h : 100 * (R * S) ≤ 59 * (U * U) = omega (arith, mul-le-mul r s) in (h, omega (arith, mul-pos u u))

rounded_small : (U E j m x : ℕ) → 0 < U → 0 < j → 100 * E ≤ U → 100 * x ≤ 59 * (U * U) → Within (U * E) (m * U) x → (10 * m ≤ 7 * U) × (m < 2 * (j * U))
rounded_small U E j m x u jj e h w =
    let f : 10 * m * U ≤ 7 * U * U = omega (arith, mul-le-mul_right U e) in
    let g : 10 * m ≤ 7 * U = le_of_mul-le-mul_right f u in
    (g, omega (arith, mul-le-mul_right U jj))

quotient_small : (U E j q m : ℕ) → 0 < U → 0 < j → 100 * E ≤ U → 10 * m ≤ 7 * U → Within (j * E) (q * j) m → q < U
quotient_small U E j q m u jj e h w =
    let f : q * j ≤ (m + E) * j = omega (arith, mul-le-mul_left m jj) in
    omega (arith, le_of_mul-le-mul_right f jj)

sum_small : (σ : Bool) (U q : ℕ) → q < U → (U + q < 2 * U) × Within (U + q) (U + P σ q) (0 + N σ q)
sum_small true U q h = omega arith
sum_small false U q h = omega arith

-- the product, the quotient and the sum, each rounded
all_rounded : (σ : Bool) (U E z q j m R S : ℕ) → Within E (z + (0 + N σ q)) (0 + (U + P σ q)) → Within (j * E) (q * j) m → Within (U * E) (m * U) (R * S)
    → Within ((2 * j + 1) * (U * E)) (z * (U * j) + N σ R * S) (U * U * j + P σ R * S)
all_rounded true U E z q j m R S a b c = omega (arith, times (U * j) a, times U b)
all_rounded false U E z q j m R S a b c = omega (arith, times (U * j) a, times U b)

-- from one step to the next: S' is near where S is, and the rest (Rp - Rn) / U to (p - q) / c
linear : (xs xd yn yp ps ns pa pb qa qb hp hq r e f : ℕ) → Within (2 * f + e) (xs + yn) (xd + yp) → Within (3 * r) (yp + ns) (yn + ps) → Within (12 * hp) (ps + pb) pa → Within (12 * hq) (ns + qb) qa
    → 2 * r ≤ 3 * e → 100 * (hp + hq) ≤ 36 * e → e ≤ f → Within (12 * f) (xs + (pb + qa)) (xd + (pa + qb))
linear xs xd yn yp ps ns pa pb qa qb hp hq r e f h1 h2 h3 h4 h5 h6 h7 = omega arith

divided : (U E d S p q a b : ℕ) → 0 < U → Within (12 * (U * E * d)) (S * U * d + (p * U * b * U + q * U * a * U)) (U * U * d + (p * U * a * U + q * U * b * U))
    → Within (12 * (E * d)) (S * d + (p * b + q * a) * U) ((d + (p * a + q * b)) * U)
divided U E d S p q a b u h = cancel u (omega arith)

next : (U E c d j S S' Rp Rn p q a b : ℕ) → 0 < U → 0 < j
    → Within ((2 * j + 1) * (U * E)) (S' * (U * j) + Rn * S) (U * U * j + Rp * S)
    → Within (12 * (E * d)) (S * d + b * U) (a * U)
    → Within (3 * (E * c)) (Rp * c + q * U) (Rn * c + p * U)
    → S * 2 ≤ 3 * U → (p + q) * 100 ≤ c * 36
    → Within (12 * (E * (c * j * d))) (S' * (c * j * d) + (p * b + q * a) * U) ((c * j * d + (p * a + q * b)) * U)
next U E c d j S S' Rp Rn p q a b u jj f n r s t =
    divided U E (c * j * d) S' p q a b u
    (linear (S' * U * (c * j * d)) (U * U * (c * j * d)) (Rn * S * d * c) (Rp * S * d * c) (p * U * S * d) (q * U * S * d) (p * U * a * U) (p * U * b * U) (q * U * a * U) (q * U * b * U)
    (p * U * E * d) (q * U * E * d) (E * c * S * d) (U * E * d * c) (U * E * (c * j * d))
    (omega (arith, times (d * c) f)) (omega (arith, times (S * d) r)) (omega (arith, times (p * U) n)) (omega (arith, times (q * U) n))
    (omega (arith, mul-le-mul_right (E * c * d) s)) (omega (arith, mul-le-mul_right (U * E * d) t)) (omega (arith, mul-le-mul_right (U * E * d * c) jj)))

-- ---- one step in floats
-- a sum that is known not to be negative
upright : (w : Float) (p n : ℕ) → T (natural w) → Sum w p n → (z : ℕ) × HasValue w false z U × Within E (z + n) (0 + p)
upright w p n t s = let e : s.0 ≡ false = sym (cross w s.0 s.1 U s.2).1 ∙ nat_sgn w t in (s.1, rw e at s.2, rw e at s.3)

step_near : (r s : Float) (σ : Bool) (R S j : ℕ) → HasValue r σ R U → HasValue s false S U → R * 100 ≤ 39 * U → S * 2 ≤ 3 * U → 0 < j → j ≤ 2 ^ 53 → T (natural (exp_step r s j))
    → (z : ℕ) × HasValue (exp_step r s j) false z U × Within ((2 * j + 1) * (U * E)) (z * (U * j) + N σ R * S) (U * U * j + P σ R * S)
step_near r s σ R S j vr vs hR hS jj j53 t =
    let a = product_small U R S u_pos hR hS in
    let m = mul_near r s σ R S vr vs a.1 in
    let b = rounded_small U E j m.0 (R * S) u_pos jj e_small a.0 m.2 in
    let q = div_near (mul binary64 r s) (of_int binary64 (pos j)) σ m.0 j m.1 (count_value j j53) jj b.1 in
    let c = sum_small σ U q.0 (quotient_small U E j q.0 m.0 u_pos jj e_small b.0 q.2) in
    let x = div binary64 (mul binary64 r s) (of_int binary64 (pos j)) in
    let w = upright (add binary64 one x) (U + P σ q.0) (0 + N σ q.0) (rw (step_is r s j) at t) (add_near one x false σ U q.0 (U + q.0) (refl, refl) q.1 c.0 c.1) in
    (w.0, rw (step_is r s j) w.1, all_rounded σ U E w.0 q.0 j m.0 R S w.2 q.2 m.2)

-- ---- all the steps, from s at most hi: what is tested of each
abbrev tests : ℕ → Float → List Bool
tests j hi = leb j (2 ^ 53) ∷ natural hi ∷ le hi three_halves ∷ step_tests R35 hi j

abbrev pub held : ℕ → Float → Bool
held zero hi = true
held (suc j) hi = allb (tests (suc j) hi) && held j (upper R35 hi (suc j))

pub thirteen : T (held 13 one)
unfolding round add mul div neg of_int le
thirteen = tt

module _ (r : Float) (σ : Bool) (R c p q : ℕ) (fr : T (finite r)) (hr : T (le (magnitude r) R35)) (vr : HasValue r σ R U) (C : 0 < c)
    (rest : Within (3 * (E * c)) (P σ R * c + q * U) (N σ R * c + p * U)) (rho : (p + q) * 100 ≤ c * 36) where
  pub steps_near : (j : ℕ) (hi s : Float) (S a b d : ℕ) → T (held j hi) → T (natural s) → T (le s hi) → HasValue s false S U → Near S d a b
      → (z : ℕ) × HasValue (exp_steps j r s) false z U × Near z (nested_over c j d) (nested c p q j a b d false) (nested c p q j a b d true)
  unfolding nested_over nested
  steps_near zero hi s S a b d ok ns hs vs n = (S, rw (steps_zero r s) vs, n)
  steps_near (suc j) hi s S a b d ok ns hs vs n =
      let more = held j (upper R35 hi (suc j)) in
      let t = all→ (tests (suc j) hi) (and_l (allb (tests (suc j) hi)) more ok) in
      let i = step_in R35 hi r s (suc j) t.1.1.1 R35-nat t.1.0 fr hr ns hs in
      let ns' = step_nat R35 hi r s (suc j) t.1.1.1 R35-nat t.1.0 fr hr ns hs in
      let hS : S * 2 ≤ 3 * U = le_units s three_halves S U 3 2 vs (refl, refl) (le_tr s hi three_halves hs t.1.1.0) in
      let w = step_near r s σ R S (suc j) vr vs (rest_size σ U E c R p q C e_small rest rho) hS (zero-lt-suc j) (leb→le (suc j) (2 ^ 53) t.0) ns' in
      let n' = next U E c d (suc j) S w.0 (P σ R) (N σ R) p q a b u_pos (zero-lt-suc j) w.2 n rest hS rho in
      let more-ok = and_r (allb (tests (suc j) hi)) more ok in
      let z = steps_near j (upper R35 hi (suc j)) (exp_step r s (suc j)) w.0 (c * suc j * d + (p * a + q * b)) (p * b + q * a) (c * suc j * d) more-ok ns' i.1 w.1 n' in
      (z.0, rw (steps_is j r s) z.1, z.2)
