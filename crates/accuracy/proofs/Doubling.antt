-- At k·L, L = XL / CL, the sums of the power series are 2^k at most, and the one to 27·k is 2^k within k parts in 2^96. Assumes nothing.
use mathlib.Core.Path.{◌≡◌, ap, ◌∙◌, subst}
use mathlib.Core.Logic.{inl, inr}
use Prim.Native.Nat.{ℕ, zero, suc, ◌+◌, ◌-◌, ◌*◌, ◌^◌, ◌≤◌, ◌<◌}
use native.Mathlib.Nat.{le_trans, le_of_lt, le-suc, mul-le-mul, mul-le-mul_left, le_of_mul-le-mul_left, eq_of_mul-eq-mul_left, mul-pos, zero-lt-suc, zero-mul, suc-mul, pow-suc, pow-zero}
use native.Mathlib.Omega.{arith}
use lib.Dec.{T, leb, leb→le, ltb→lt}
use lib.Pow.{pow_pos}
use Rattle.real.proofs.SignedOrder.{here_or_on}
use Rattle.accuracy.specs.PowerSeries.{factorial}
use Rattle.accuracy.proofs.Nested.{XL, CL}
use Rattle.accuracy.proofs.Terms.{Terms, terms_of, terms_are, unit, unit_pos, unscaled, sum, sum_mono, one_in, tail}
use Rattle.accuracy.proofs.Product.{sum_above, sum_beneath}

-- ---- terms and sums over n!·c^n
abbrev pub whole : ℕ → ℕ → ℕ
whole c n = factorial n * c ^ n

whole_step : (c n : ℕ) → whole c (suc n) ≡ c * suc n * whole c n
unfolding factorial
whole_step c n = omega (arith, ap (λ (z : ℕ). suc n * factorial n * z) (pow-suc c n))

-- n!·c^n times the sum to n
unfoldable whole_sum : ℕ → ℕ → ℕ → ℕ
whole_sum X c zero = 1
whole_sum X c (suc n) = X ^ suc n + c * suc n * whole_sum X c n

module _ {top X c o : ℕ} {t : ℕ → ℕ} (is : Terms top X c o t) where
  pub term_over : (n : ℕ) → n ≤ top → o * X ^ n ≡ whole c n * t n
  unfolding factorial
  term_over zero h = omega (arith, is.first, ap (λ (z : ℕ). o * z) (pow-zero X), ap (λ (z : ℕ). z * t zero) (pow-zero c))
  term_over (suc n) h =
      omega (arith, ap (λ (z : ℕ). o * z) (pow-suc X n), ap (λ (z : ℕ). X * z) (term_over n (omega arith)), ap (λ (z : ℕ). whole c n * z) (is.next n h), ap (λ (z : ℕ). z * t (suc n)) (whole_step c n))

  sum_over : (n : ℕ) → n ≤ top → o * whole_sum X c n ≡ whole c n * sum t n
  unfolding whole_sum sum factorial
  sum_over zero h = omega (arith, is.first, ap (λ (z : ℕ). z * t zero) (pow-zero c))
  sum_over (suc n) h = omega (arith, term_over (suc n) h, ap (λ (z : ℕ). c * suc n * z) (sum_over n (omega arith)), ap (λ (z : ℕ). z * sum t n) (whole_step c n))

-- ---- at L: two computed tests, of the sum to 27 with its last term counted twice, and of the sum alone
abbrev pub H : ℕ
H = 2 ^ 96

sum_test : T (leb (whole_sum XL CL 27 + XL ^ 27) (2 * whole CL 27))
unfolding whole_sum factorial
sum_test = tt

low_test : T (leb (2 * (H - 1) * whole CL 27) (H * whole_sum XL CL 27))
unfolding whole_sum factorial
low_test = tt

whole_pos : 0 < whole CL 27
unfolding factorial
whole_pos = ltb→lt 0 (whole CL 27) tt

half_test : T (leb (2 * XL) (CL * 28))
half_test = tt

module _ {top o : ℕ} {t : ℕ → ℕ} (is : Terms top XL CL o t) (h27 : 27 ≤ top) where
  at_most_two : (n : ℕ) → n ≤ top → sum t n ≤ 2 * o
  at_most_two n h =
      let both = le_of_mul-le-mul_left (scaled (whole CL 27) (whole_sum XL CL 27) (XL ^ 27) (sum t 27) (t 27) o (sum_over is 27 h27) (term_over is 27 h27)
      (leb→le (whole_sum XL CL 27 + XL ^ 27) (2 * whole CL 27) sum_test)) whole_pos in
      elim (here_or_on n 27) [
        | inl g ↦ omega (arith, both, sum_mono t n 27 (le_of_lt g))
        | inr g ↦ omega (arith, both, tail (pow_pos 100) is 27 n (leb→le (2 * XL) (CL * 28) half_test) g h)
      ]
    where
      scaled : (w b p s l o : ℕ) → o * b ≡ w * s → o * p ≡ w * l → b + p ≤ 2 * w → w * (s + l) ≤ w * (2 * o)
      scaled w b p s l o e f g = omega (arith, mul-le-mul_left o g)

  nearly_two : 2 * (H - 1) * o ≤ H * sum t 27
  nearly_two =
      le_of_mul-le-mul_left (scaled (whole CL 27) (whole_sum XL CL 27) (sum t 27) o (2 * (H - 1)) H (sum_over is 27 h27) (leb→le (2 * (H - 1) * whole CL 27) (H * whole_sum XL CL 27) low_test)) whole_pos
    where
      scaled : (w b s o g h : ℕ) → o * b ≡ w * s → g * w ≤ h * b → w * (g * o) ≤ w * (h * s)
      scaled w b s o g h e l = omega (arith, mul-le-mul_left o l, ap (λ (z : ℕ). h * z) e)

-- ---- at k·L

-- at 0 every sum is 1
none_left : {top c o : ℕ} {t : ℕ → ℕ} → 0 < c → Terms top 0 c o t → (n : ℕ) → n ≤ top → sum t n ≡ o
unfolding sum
none_left C is zero h = is.first
none_left {c = c} {t = t} C is (suc n) h =
    let z : t (suc n) ≡ 0 = eq_of_mul-eq-mul_left (c * suc n) (mul-pos C (zero-lt-suc n)) (t (suc n)) 0 (omega (arith, is.next n h)) in
    omega (arith, none_left C is n (omega arith))

-- (1 - k/h)·(1 - 1/h) is at least 1 - (k + 1)/h
one_more : (h k : ℕ) → suc k ≤ h → h * (h - suc k) ≤ (h - k) * (h - 1)
one_more h k l =
    let d = h - suc k in
    let e : h ≡ suc k + d = omega arith in
    let f : h - k ≡ suc d = omega arith in
    let g : h - 1 ≡ k + d = omega arith in
    omega (arith, ap (λ (z : ℕ). z * d) e, ap (λ (z : ℕ). z * (h - 1)) f, ap (λ (z : ℕ). suc d * z) g)

module _ {top v : ℕ} (V0 : 0 < v) (h27 : 27 ≤ top) where
  abbrev c : ℕ
  c = CL * v

  abbrev o : ℕ
  o = unit top c

  abbrev at : ℕ → ℕ → ℕ
  at k = terms_of top c (k * XL * v)

  C : 0 < c
  C = mul-pos (pow_pos 100) V0

  o_pos : 0 < o
  o_pos = unit_pos top c C

  -- the terms at L itself
  abbrev ell : ℕ → ℕ
  ell = terms_of top c (XL * v)

  ell_is : Terms top XL CL o ell
  ell_is = unscaled top XL CL o v ell V0 (terms_are top c (XL * v))

  next_is : (k : ℕ) → Terms top (k * XL * v + XL * v) c o (at (suc k))
  next_is k =
      let e : suc k * XL * v ≡ k * XL * v + XL * v = omega (arith, ap (λ (z : ℕ). z * v) (suc-mul k XL)) in
      subst (λ (z : ℕ). Terms top z c o (at (suc k))) e (terms_are top c (suc k * XL * v))

  pub powers_above : (k n : ℕ) → n ≤ top → sum (at k) n ≤ 2 ^ k * o
  powers_above zero n h =
      let e : zero * XL * v ≡ 0 = ap (λ (z : ℕ). z * v) (zero-mul XL) ∙ zero-mul v in
      omega (arith, none_left C (subst (λ (z : ℕ). Terms top z c o (at zero)) e (terms_are top c (zero * XL * v))) n h)
  powers_above (suc k) n h =
      le_of_mul-le-mul_left (more (2 ^ k) (2 ^ suc k) o (sum (at (suc k)) n) (sum (at k) n) (sum ell n) (pow-suc 2 k)
      (sum_above C (terms_are top c (k * XL * v)) (terms_are top c (XL * v)) (next_is k) n h) (powers_above k n h) (at_most_two ell_is h27 n h)) o_pos
    where
      more : (p q o r s l : ℕ) → q ≡ p * 2 → o * r ≤ s * l → s ≤ p * o → l ≤ 2 * o → o * r ≤ o * (q * o)
      more p q o r s l e f g h = omega (arith, mul-le-mul g h, ap (λ (z : ℕ). o * o * z) e)

  pub powers_beneath : (k : ℕ) → k * 27 ≤ top → k ≤ H → 2 ^ k * (H - k) * o ≤ H * sum (at k) (k * 27)
  powers_beneath zero h l = start H o (sum (at zero) (zero * 27)) (one_in C (terms_are top c (zero * XL * v)) (zero * 27))
    where
      start : (h o s : ℕ) → o ≤ s → 1 * h * o ≤ h * s
      start h o s l = omega (arith, mul-le-mul_left h l)
  powers_beneath (suc k) h l =
      let e = suc-mul k 27 in
      let p = sum_beneath C (terms_are top c (k * XL * v)) (terms_are top c (XL * v)) (next_is k) (k * 27) 27 (omega arith) in
      more H k (2 ^ k) (2 ^ suc k) o (sum (at k) (k * 27)) (sum ell 27) (sum (at (suc k)) (suc k * 27)) (pow_pos 96) o_pos l (pow-suc 2 k)
      (rw e p) (powers_beneath k (omega arith) (le_trans (le-suc k) l)) (nearly_two ell_is h27)
    where
      more : (h k p q o s l r : ℕ) → 0 < h → 0 < o → suc k ≤ h → q ≡ p * 2 → s * l ≤ o * r → p * (h - k) * o ≤ h * s → 2 * (h - 1) * o ≤ h * l → q * (h - suc k) * o ≤ h * r
      more h k p q o s l r h0 o0 g e a b d =
          let f : h * o * (q * (h - suc k) * o) ≤ h * o * (h * r) = chain h o p q (h - suc k) (h - k) (h - 1) s l r e (one_more h k g) a b d in
          le_of_mul-le-mul_left f (mul-pos h0 o0)
        where
          chain : (h o p q x y z s l r : ℕ) → q ≡ p * 2 → h * x ≤ y * z → s * l ≤ o * r → p * y * o ≤ h * s → 2 * z * o ≤ h * l → h * o * (q * x * o) ≤ h * o * (h * r)
          chain h o p q x y z s l r e f a b d = omega (arith, ap (λ (i : ℕ). h * o * x * o * i) e, mul-le-mul_left (2 * p * o * o) f, mul-le-mul b d, mul-le-mul_left (h * h) a)
