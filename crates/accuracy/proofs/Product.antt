-- Sums of the power series at two places and at their sum: (sum to n at x + y) ≤ (sum to n at x)·(sum to n at y), and (sum to m at x)·(sum to k at y) ≤ (sum to m + k at x + y). Assumes nothing.
use mathlib.Core.Path.{◌≡◌, refl, sym, ap, ◌∙◌}
use Prim.Native.Nat.{ℕ, zero, suc, ◌+◌, ◌-◌, ◌*◌, ◌≤◌, ◌<◌}
use native.Mathlib.Nat.{le_refl, le_trans, mul-le-mul_left, mul-pos, zero-lt-suc, eq_of_mul-eq-mul_left}
use native.Mathlib.Omega.{arith}
use Rattle.accuracy.proofs.Terms.{Terms, sum, sum_mono}

-- ---- laws of sums
sum_same : (f g : ℕ → ℕ) (n : ℕ) → ((i : ℕ) → i ≤ n → f i ≡ g i) → sum f n ≡ sum g n
unfolding sum
sum_same f g zero h = h zero (le_refl zero)
sum_same f g (suc n) h = omega (arith, h (suc n) (le_refl (suc n)), sum_same f g n (λ i l. h i (omega arith)))

sum_below : (f g : ℕ → ℕ) (n : ℕ) → ((i : ℕ) → i ≤ n → f i ≤ g i) → sum f n ≤ sum g n
unfolding sum
sum_below f g zero h = h zero (le_refl zero)
sum_below f g (suc n) h = omega (arith, h (suc n) (le_refl (suc n)), sum_below f g n (λ i l. h i (omega arith)))

sum_plus : (f g : ℕ → ℕ) (n : ℕ) → sum (λ i. f i + g i) n ≡ sum f n + sum g n
unfolding sum
sum_plus f g zero = refl
sum_plus f g (suc n) = omega (arith, sum_plus f g n)

sum_times : (k : ℕ) (f : ℕ → ℕ) (n : ℕ) → sum (λ i. k * f i) n ≡ k * sum f n
unfolding sum
sum_times k f zero = refl
sum_times k f (suc n) = omega (arith, sum_times k f n)

sum_first : (f : ℕ → ℕ) (n : ℕ) → sum f (suc n) ≡ f zero + sum (λ i. f (suc i)) n
unfolding sum
sum_first f zero = omega arith
sum_first f (suc n) = omega (arith, sum_first f n)

sum_last : (f : ℕ → ℕ) (n : ℕ) → sum f (suc n) ≡ f (suc n) + sum f n
unfolding sum
sum_last f n = refl

-- ---- t 0·u n + .. + t n·u 0
abbrev product : (ℕ → ℕ) → (ℕ → ℕ) → ℕ → ℕ
product t u n = sum (λ i. t i * u (n - i)) n

one_on : (n i : ℕ) → i ≤ n → suc n - i ≡ suc (n - i)
one_on n i l = omega arith

both_on : (n i : ℕ) → suc n - suc i ≡ n - i
both_on n i = omega arith

none_on : (n : ℕ) → suc n - suc n ≡ 0
none_on n = omega arith

-- the sums of the products, row by row
rows : (t u : ℕ → ℕ) (n : ℕ) → sum (product t u) n ≡ sum (λ i. t i * sum u (n - i)) n
unfolding sum
rows t u zero = refl
rows t u (suc n) =
    let a : ℕ → ℕ = λ i. t i * u (suc n - i) in
    let b : ℕ → ℕ = λ i. t i * sum u (n - i) in
    let longer : (i : ℕ) → i ≤ n → t i * sum u (suc n - i) ≡ a i + b i = λ i l. rw (one_on n i l) (omega arith) in
    let last : t (suc n) * sum u (suc n - suc n) ≡ a (suc n) = rw (none_on n) refl in
    omega (arith, rows t u n, sum_same (λ i. t i * sum u (suc n - i)) (λ i. a i + b i) n longer, sum_plus a b n, last)

module _ {top X Y c o o' : ℕ} {t u : ℕ → ℕ} (ist : Terms top X c o t) (isu : Terms top Y c o' u) where
  -- c·(n + 1)·product (n + 1) = (X + Y)·product n, as n + 1 = i + (n + 1 - i) and each part lowers one factor's index
  grows : (n : ℕ) → n < top → c * suc n * product t u (suc n) ≡ (X + Y) * product t u n
  grows n h =
      let a : ℕ → ℕ = λ i. c * i * t i * u (suc n - i) in
      let b : ℕ → ℕ = λ i. t i * (c * (suc n - i) * u (suc n - i)) in
      let p : ℕ → ℕ = λ i. t i * u (n - i) in
      let split : (i : ℕ) → i ≤ suc n → c * suc n * (t i * u (suc n - i)) ≡ a i + b i =
      λ i l. let e : i + (suc n - i) ≡ suc n = omega arith in omega (arith, ap (λ (z : ℕ). c * z * (t i * u (suc n - i))) e) in
      let left : (i : ℕ) → i ≤ n → a (suc i) ≡ X * p i = λ i l. rw (both_on n i) (omega (arith, ap (λ (z : ℕ). z * u (n - i)) (ist.next i (omega arith)))) in
      let right : (i : ℕ) → i ≤ n → b i ≡ Y * p i = λ i l. rw (one_on n i l) (omega (arith, ap (λ (z : ℕ). t i * z) (isu.next (n - i) (omega arith)))) in
      let end : b (suc n) ≡ 0 = rw (none_on n) (omega arith) in
      omega (
        arith,
        sum_times (c * suc n) (λ i. t i * u (suc n - i)) (suc n),
        sum_same (λ i. c * suc n * (t i * u (suc n - i))) (λ i. a i + b i) (suc n) split,
        sum_plus a b (suc n),
        sum_first a n,
        sum_same (λ i. a (suc i)) (λ i. X * p i) n left,
        sum_times X p n,
        sum_last b n,
        end,
        sum_same b (λ i. Y * p i) n right,
        sum_times Y p n,
      )

-- ---- with the terms at the sum
module _ {top X Y c o : ℕ} {t u w : ℕ → ℕ} (C : 0 < c) (ist : Terms top X c o t) (isu : Terms top Y c o u) (isw : Terms top (X + Y) c o w) where
  -- the binomial theorem
  binomial : (n : ℕ) → n ≤ top → product t u n ≡ o * w n
  unfolding sum
  binomial zero h = ap (λ (z : ℕ). z * u zero) ist.first ∙ ap (λ (z : ℕ). o * z) (isu.first ∙ sym isw.first)
  binomial (suc n) h =
      eq_of_mul-eq-mul_left (c * suc n) (mul-pos C (zero-lt-suc n)) (product t u (suc n)) (o * w (suc n))
      (grows ist isu n h ∙ ap (λ (z : ℕ). (X + Y) * z) (binomial n (omega arith)) ∙ omega (arith, ap (λ (z : ℕ). o * z) (isw.next n h)))

  sum_at : (n : ℕ) → n ≤ top → o * sum w n ≡ sum (λ i. t i * sum u (n - i)) n
  sum_at n h = sym (sum_times o w n) ∙ sum_same (λ i. o * w i) (product t u) n (λ i l. sym (binomial i (le_trans l h))) ∙ rows t u n

  pub sum_above : (n : ℕ) → n ≤ top → o * sum w n ≤ sum t n * sum u n
  sum_above n h =
      omega (
        arith,
        sum_at n h,
        sum_below (λ i. t i * sum u (n - i)) (λ i. sum u n * t i) n
            (λ i l. omega (arith, mul-le-mul_left (t i) (sum_mono u (n - i) n (omega arith)))),
        sum_times (sum u n) t n,
      )

  pub sum_beneath : (m k : ℕ) → m + k ≤ top → sum t m * sum u k ≤ o * sum w (m + k)
  sum_beneath m k h =
      let f : ℕ → ℕ = λ i. t i * sum u (m + k - i) in
      omega (
        arith,
        sum_at (m + k) h,
        sum_times (sum u k) t m,
        sum_mono f m (m + k) (omega arith),
        sum_below (λ i. sum u k * t i) f m (λ i l. omega (arith, mul-le-mul_left (t i) (sum_mono u k (m + k - i) (omega arith)))),
      )
