-- The exact value of the 13 steps at Y / c or -Y / c is the sum of the power series to 13 there. Assumes nothing.
use mathlib.Core.Path.{◌≡◌, refl, ap}
use Prim.Native.Nat.{ℕ, zero, suc, ◌+◌, ◌*◌, ◌≤◌, ◌<◌}
use native.Mathlib.Nat.{mul-pos, zero-lt-suc}
use native.Mathlib.Omega.{arith}
use mathlib.Core.Bool.{Bool, true, false, cond}
use Rattle.real.proofs.SignedOrder.{P, N}
use Rattle.accuracy.proofs.Close.{Within, times, cancel}
use Rattle.accuracy.proofs.Nested.{U, E, nested_over, nested, Near, NearSteps}
use Rattle.accuracy.proofs.Terms.{Terms, sum, part}

-- the terms that the steps for j down to 1 add to a and b, which change places at each step where the sign is set
unfoldable gathered : Bool → (ℕ → ℕ) → ℕ → ℕ → ℕ → Bool → ℕ
gathered σ y zero a b false = a
gathered σ y zero a b true = b
gathered σ y (suc j) a b s = gathered σ y j (y j + cond σ b a) (cond σ a b) s

in_order : (y : ℕ → ℕ)
    → (gathered false y 13 (y 13) 0 false ≡ sum y 13) × (gathered false y 13 (y 13) 0 true ≡ 0)
    × (gathered true y 13 (y 13) 0 false ≡ part y 13 true) × (gathered true y 13 (y 13) 0 true ≡ part y 13 false)
unfolding gathered sum part
in_order y = (omega arith, refl, omega arith, omega arith)

-- one step: w and w' are y j and y (j + 1), g is c·(j + 1)
turn : (σ : Bool) (Y g w w' a b d A B : ℕ) → g * w' ≡ Y * w → w' * a ≡ d * A → w' * b ≡ d * B
    → (w * (g * d + (P σ Y * a + N σ Y * b)) ≡ g * d * (w + cond σ B A)) × (w * (P σ Y * b + N σ Y * a) ≡ g * d * cond σ A B)
turn true Y g w w' a b d A B e f h = omega (arith, ap (λ (z : ℕ). a * z) e, ap (λ (z : ℕ). b * z) e, ap (λ (z : ℕ). g * z) f, ap (λ (z : ℕ). g * z) h)
turn false Y g w w' a b d A B e f h = omega (arith, ap (λ (z : ℕ). a * z) e, ap (λ (z : ℕ). b * z) e, ap (λ (z : ℕ). g * z) f, ap (λ (z : ℕ). g * z) h)

over_pos : (c : ℕ) → 0 < c → (j d : ℕ) → 0 < d → 0 < nested_over c j d
unfolding nested_over
over_pos c C zero d D = D
over_pos c C (suc j) d D = over_pos c C j (c * suc j * d) (mul-pos (mul-pos C (zero-lt-suc j)) D)

-- near to a fraction is near to the same fraction with another denominator
same_near : (S d o a b A B : ℕ) → 0 < d → o * a ≡ d * A → o * b ≡ d * B → Near S d a b → Near S o A B
same_near S d o a b A B D e f n = go U E (times o n)
  where
    go : (U E : ℕ) → Within (12 * (E * d) * o) ((S * d + b * U) * o) (a * U * o) → Within (12 * (E * o)) (S * o + B * U) (A * U)
    go U E h = cancel {k = d} D (omega (arith, ap (λ (z : ℕ). z * U) e, ap (λ (z : ℕ). z * U) f))

module _ {top Y c o : ℕ} {y : ℕ → ℕ} (C : 0 < c) (is : Terms top Y c o y) (h13 : 13 ≤ top) where
  nested_is : (σ : Bool) (j a b d A B : ℕ) (s : Bool) → j ≤ top → y j * a ≡ d * A → y j * b ≡ d * B
      → y zero * nested c (P σ Y) (N σ Y) j a b d s ≡ nested_over c j d * gathered σ y j A B s
  unfolding nested nested_over gathered
  nested_is σ zero a b d A B false h p q = p
  nested_is σ zero a b d A B true h p q = q
  nested_is σ (suc j) a b d A B s h p q =
      let w = turn σ Y (c * suc j) (y j) (y (suc j)) a b d A B (is.next j h) p q in
      nested_is σ j (c * suc j * d + (P σ Y * a + N σ Y * b)) (P σ Y * b + N σ Y * a) (c * suc j * d) (y j + cond σ B A) (cond σ A B) s (omega arith) w.0 w.1

  moved : (S : ℕ) (σ : Bool) → NearSteps S c (P σ Y) (N σ Y) → Near S o (gathered σ y 13 (y 13) 0 false) (gathered σ y 13 (y 13) 0 true)
  moved S σ n =
      let is-gathered : (s : Bool) → o * nested c (P σ Y) (N σ Y) 13 1 0 1 s ≡ nested_over c 13 1 * gathered σ y 13 (y 13) 0 s =
      λ s. rw is.first at (nested_is σ 13 1 0 1 (y 13) 0 s h13 (omega arith) (omega arith)) in
      same_near S (nested_over c 13 1) o (nested c (P σ Y) (N σ Y) 13 1 0 1 false) (nested c (P σ Y) (N σ Y) 13 1 0 1 true)
      (gathered σ y 13 (y 13) 0 false) (gathered σ y 13 (y 13) 0 true) (over_pos c C 13 1 (zero-lt-suc 0)) (is-gathered false) (is-gathered true) n

  -- at Y / c
  pub near_above : (S : ℕ) → NearSteps S c Y 0 → Near S o (sum y 13) 0
  near_above S n = let f = in_order y in rw (f.0, f.1) at (moved S false n)

  -- at -Y / c: the even powers, less the odd ones
  pub near_below : (S : ℕ) → NearSteps S c 0 Y → Near S o (part y 13 true) (part y 13 false)
  near_below S n = let f = in_order y in rw (f.2, f.3) at (moved S true n)
