-- A partial sum of the power series, as a fraction, is the sum of its terms of even power less that of its terms of odd power. Assumes nothing.
use mathlib.Core.Path.{◌≡◌, refl, sym, ap, ◌∙◌, subst}
use mathlib.Core.Logic.{◌⊎◌, inl, inr}
use Prim.Native.Nat.{ℕ, zero, suc, ◌+◌, ◌-◌, ◌*◌, ◌^◌, ◌≤◌, ◌<◌}
use native.Mathlib.Nat.{mul_comm, mul-one, mul-zero, mul-pos, zero-lt-suc, pow-suc, pow-zero, one-le-pow}
use native.Mathlib.Omega.{arith}
use mathlib.Core.Bool.{Bool, true, false, not}
use lib.Dec.{T, ltb, ltb→lt, nltb→le}
use lib.Ieee.{unlike}
use Rattle.real.specs.Fractions.{Fraction, fraction, fraction_joined, fraction_plus}
use Rattle.real.proofs.Cases.{by_test}
use Rattle.real.proofs.SignedOrder.{P, N, P-mul, N-mul, unlike_false}
use Rattle.accuracy.specs.PowerSeries.{power, factorial, partial_sum}
use Rattle.accuracy.proofs.Terms.{Terms, part}
use Rattle.accuracy.proofs.Opposite.{odd}
use Rattle.accuracy.proofs.Doubling.{whole, term_over}

-- ---- sums of fractions

-- f is (p - n) / c, as it stands
abbrev Is : ℕ → ℕ → ℕ → Fraction → Type 0
Is p n c (fraction r y d) = (d ≡ c) × (P r y + n ≡ N r y + p)

joined_is : (s t : Bool) (a b c : ℕ) → Is (P s a + P t b) (N s a + N t b) c (fraction_joined s a t b c)
joined_is false false a b c = (refl, omega arith)
joined_is true true a b c = (refl, omega arith)
joined_is false true a b c =
    by_test (Is (a + 0) (0 + b) c) (ltb a b) (fraction true (b - a) c) (fraction false (a - b) c)
    (λ h. (refl, omega (arith, ltb→lt a b (subst T (sym h) tt)))) (λ h. (refl, omega (arith, nltb→le a b (rw h tt))))
joined_is true false a b c =
    by_test (Is (0 + b) (a + 0) c) (ltb a b) (fraction false (b - a) c) (fraction (ltb b a) (a - b) c)
    (λ h. (refl, omega (arith, ltb→lt a b (subst T (sym h) tt)))) (λ h. none (ltb b a) (nltb→le b a) (nltb→le a b (rw h tt)))
  where
    none : (x : Bool) → (T (not x) → a ≤ b) → b ≤ a → Is (0 + b) (a + 0) c (fraction x (a - b) c)
    none true q l = (refl, omega arith)
    none false q l = let m = q tt in (refl, omega arith)

-- f is (up - lo) / o
abbrev pub Worth : Fraction → ℕ → ℕ → ℕ → Type 0
Worth (fraction s z d) o up lo = (0 < d) × (P s z * o + d * lo ≡ N s z * o + d * up)

-- the two parts of a number
abbrev side : Bool → Bool → ℕ → ℕ
side false = P
side true = N

side_times : (w s : Bool) (a k : ℕ) → side w s (a * k) ≡ side w s a * k
side_times false = P-mul
side_times true = N-mul

sums : (pr nr pa na pb nb d e o up lo p n : ℕ) → pr + (na * e + nb * d) ≡ nr + (pa * e + pb * d) → pa * o + d * lo ≡ na * o + d * up
    → pb * o ≡ e * p → nb * o ≡ e * n → pr * o + d * e * (n + lo) ≡ nr * o + d * e * (p + up)
sums pr nr pa na pb nb d e o up lo p n h w hp hn =
    let a : (pr + (na * e + nb * d)) * o ≡ (nr + (pa * e + pb * d)) * o = ap (λ (z : ℕ). z * o) h in
    omega (arith, ap (λ (z : ℕ). e * z) w, ap (λ (z : ℕ). d * z) hp, ap (λ (z : ℕ). d * z) hn)

-- one term more
plus_worth : (f : Fraction) (t : Bool) (b e o up lo p n : ℕ) → 0 < e → Worth f o up lo → P t b * o ≡ e * p → N t b * o ≡ e * n
    → Worth (fraction_plus f (fraction t b e)) o (p + up) (n + lo)
plus_worth (fraction s a d) t b e o up lo p n E w hp hn = go (fraction_joined s (a * e) t (b * d) (d * e)) (joined_is s t (a * e) (b * d) (d * e))
  where
    go : (g : Fraction) → Is (P s (a * e) + P t (b * d)) (N s (a * e) + N t (b * d)) (d * e) g → Worth g o (p + up) (n + lo)
    go (fraction r y c) h = (
      rw h.0 (mul-pos w.0 E),
      rw h.0 (sums (P r y) (N r y) (P s a) (N s a) (P t b) (N t b) d e o up lo p n
          (rw (P-mul s a e, P-mul t b d, N-mul s a e, N-mul t b d) at h.1) w.1 hp hn),
    )

-- ---- the terms

-- the terms up to n of even power, and those of odd power
abbrev pub evens : (ℕ → ℕ) → ℕ → ℕ
evens t n = part t n (odd n)

abbrev pub odds : (ℕ → ℕ) → ℕ → ℕ
odds t n = part t n (not (odd n))

power_step : (t : ℕ → ℕ) (n : ℕ) → (P (odd (suc n)) (t (suc n)) + evens t n ≡ evens t (suc n)) × (N (odd (suc n)) (t (suc n)) + odds t n ≡ odds t (suc n))
unfolding odd part
power_step t n = go (odd n)
  where
    go : (b : Bool) → (P (not b) (t (suc n)) + part t n b ≡ part t (suc n) (not b)) × (N (not b) (t (suc n)) + part t n (not b) ≡ part t (suc n) (not (not b)))
    go true = (unfold part in (refl, omega arith))
    go false = (unfold part in (omega arith, refl))

-- the sign of the power k of a negative number
turned : Bool → ℕ → Bool
turned σ zero = false
turned σ (suc k) = unlike (turned σ k) σ

power_is : (σ : Bool) (a c k : ℕ) → power (fraction σ a c) k ≡ fraction (turned σ k) (a ^ k) (c ^ k)
unfolding power turned
power_is σ a c zero = rw (pow-zero a, pow-zero c) refl
power_is σ a c (suc k) = rw (power_is σ a c k, pow-suc a k, pow-suc c k) refl

-- of a negative number it is odd, and of 0 it does not matter
signs : (w σ : Bool) (a : ℕ) → (σ ≡ true) ⊎ (a ≡ 0) → (k : ℕ) → side w (turned σ k) (a ^ k) ≡ side w (odd k) (a ^ k)
unfolding turned odd
signs w σ a m zero = refl
signs w σ a (inl h) (suc k) = ap (λ (b : Bool). side w b (a ^ suc k)) (ap (λ (b : Bool). turned b (suc k)) h ∙ same (suc k))
  where
    same : (k : ℕ) → turned true k ≡ odd k
    same zero = (unfold turned odd in refl)
    same (suc k) = (unfold turned odd in ap (λ (b : Bool). unlike b true) (same k) ∙ flip (odd k))
      where
        flip : (b : Bool) → unlike b true ≡ not b
        flip true = refl
        flip false = refl
signs w σ a (inr h) (suc k) = let z : a ^ suc k ≡ 0 = pow-suc a k ∙ ap (λ (x : ℕ). a ^ k * x) h ∙ mul-zero (a ^ k) in rw z (none w (turned σ (suc k)) ∙ sym (none w (odd (suc k))))
  where
    none : (w b : Bool) → side w b 0 ≡ 0
    none false false = refl
    none false true = refl
    none true false = refl
    none true true = refl

factorial_pos : (k : ℕ) → 0 < factorial k
unfolding factorial
factorial_pos zero = zero-lt-suc 0
factorial_pos (suc k) = mul-pos (zero-lt-suc k) (factorial_pos k)

module _ {top a c o : ℕ} {t : ℕ → ℕ} (C : 0 < c) (is : Terms top a c o t) {σ : Bool} (negative : (σ ≡ true) ⊎ (a ≡ 0)) where
  abbrev x : Fraction
  x = fraction σ a c

  -- a part of a term
  term_worth : (w : Bool) (k : ℕ) → k ≤ top → side w (unlike (turned σ k) false) (a ^ k * 1) * o ≡ whole c k * side w (odd k) (t k)
  term_worth w k h =
      rw (unlike_false (turned σ k), mul-one (a ^ k), signs w σ a negative k)
      (sym (side_times w (odd k) (a ^ k) o) ∙ ap (side w (odd k)) (mul_comm (a ^ k) o ∙ term_over is k h ∙ mul_comm (whole c k) (t k))
      ∙ side_times w (odd k) (t k) (whole c k) ∙ mul_comm (side w (odd k) (t k)) (whole c k))

  pub sum_worth : (n : ℕ) → n ≤ top → Worth (partial_sum x n) o (evens t n) (odds t n)
  unfolding partial_sum
  sum_worth zero h = (zero-lt-suc 0, (unfold odd part in omega (arith, is.first)))
  sum_worth (suc n) h =
      let k = suc n in
      let w = plus_worth (partial_sum x n) (unlike (turned σ k) false) (a ^ k * 1) (whole c k) o (evens t n) (odds t n) (P (odd k) (t k)) (N (odd k) (t k))
      (mul-pos (factorial_pos k) (one-le-pow k c C)) (sum_worth n (omega arith)) (term_worth false k h) (term_worth true k h) in
      rw (power_is σ a c k) (rw ((power_step t n).0, (power_step t n).1) at w)
