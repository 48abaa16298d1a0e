-- Where a fit is exact, its coefficients solve the published normal equations. Assumes nothing.
use mathlib.Core.Path.{◌≡◌, refl, sym, ap, ◌∙◌}
use mathlib.Core.Bool.{Bool, cond, ◌&&◌}
use mathlib.Core.Logic.{◌⊎◌, inl, inr}
use Prim.Native.Nat.{ℕ, zero, suc, ◌+◌, ◌-◌, ◌*◌, ◌%◌, ◌^◌, ◌<◌, ◌≤◌}
use native.Mathlib.Omega.{arith}
use native.Mathlib.Decide.{dec_le}
use native.Mathlib.Nat.{zero-mul, not-suc-le-zero, not-le_of_lt, lt_of_not-le, eq-or-lt_of_le}
use lib.Dec.{T, eqb, ltb, leb, leb→le}
use lib.Pow.{pow-add, pow-lt}
use lib.IntN.{ℤ, pos, negsuc, suc_ℤ, pred_ℤ, neg_ℤ, neg_ℤ-neg_ℤ, neg_ℤ-+ℤ, ◌+ℤ◌, ◌*ℤ◌, +ℤ_comm, +ℤ_assoc, +ℤ_idl, +ℤ_idr, *ℤ_comm, *ℤ-zero, zero-*ℤ, suc_ℤ-*ℤ, pred_ℤ-*ℤ}
use lib.Ieee.{Float, fin, binary64, fits, up, down}
use lib.Ieee.Digits.{back}
use lib.Ieee.Fits.{and_l, and_r}
use borrow.Author.Tests.{eq-eqb, ne_eqb}
use Rattle.setup.specs.declared.Setup.{Setup}
use Rattle.setup.specs.Data.{Data}
use Rattle.real.specs.Matrix.{Row, Matrix}
use Rattle.normal.specs.declared.equations.Equations.{Equations}
use Rattle.normal.specs.Equations.{equations_of}
use Rattle.normal.specs.Augmented.{mirrored_cell}
use Rattle.estimate.specs.declared.Coefficients.{Coefficients}
use Rattle.estimate.specs.Inverse.{inverse_cell}
use Rattle.estimate.specs.NormalEquations.{power_units, units_of, units_of_one, sum_below, cell_at, design_at, moment_at, Solves, Exact, ExactFit}

-- ---- the units: m · 2^e is m · power_units e of 2^-1074
module _ (l m : ℕ) where
  raised : (k : ℕ) → m * 2 ^ k * 2 ^ l ≡ m * 2 ^ (l + k) * 1
  raised k = rw (pow-add 2 l k) (omega arith)

  within : (k : ℕ) → 2 ^ k ≤ 2 ^ l → k ≤ l
  within k h = go (dec_le k l)
    where
      go : Dec (k ≤ l) → k ≤ l
      go (yes j) = j
      go (no f) = absurd (not-le_of_lt (pow-lt (lt_of_not-le f)) h)

  lowered : (k : ℕ) → 2 ^ k ≤ 2 ^ l → m * 1 * 2 ^ l ≡ m * 2 ^ (l - k) * 2 ^ k
  lowered k h = ap (λ (z : ℕ). m * 1 * 2 ^ z) (sym (back l k (within k h))) ∙ rw (pow-add 2 (l - k) k) (omega arith)

-- a finite binary64 is a whole number of units
pub units_value : (s : Bool) (m : ℕ) (e : ℤ) → T (fits binary64 (fin s m e)) → m * up e * 2 ^ 1074 ≡ m * power_units e * down e
unfolding fits
units_value s zero e h = rw (zero-mul (up e), zero-mul (power_units e), zero-mul (down e))
units_value s (suc m) (pos k) h = raised 1074 (suc m) k
units_value s (suc m) (negsuc k) h =
    lowered 1074 (suc m) (suc k)
    (leb→le (2 ^ suc k) (2 ^ 1074) (and_r (eqb (suc m % 2) 1 && ltb (suc m) (2 ^ 53)) (leb (2 ^ suc k) (2 ^ 1074))
    (and_l (eqb (suc m % 2) 1 && ltb (suc m) (2 ^ 53) && leb (2 ^ suc k) (2 ^ 1074)) (ltb (suc m * 1) (2 ^ 1024 * 2 ^ suc k)) h)))

-- ---- laws of whole numbers that the library leaves out: the product distributes over the sum, and is associative
swap4 : (a b c d : ℤ) → a +ℤ b +ℤ (c +ℤ d) ≡ a +ℤ c +ℤ (b +ℤ d)
swap4 a b c d =
    +ℤ_assoc a b (c +ℤ d)
    ∙ ap (λ (z : ℤ). a +ℤ z) (sym (+ℤ_assoc b c d) ∙ ap (λ (z : ℤ). z +ℤ d) (+ℤ_comm b c) ∙ +ℤ_assoc c b d)
    ∙ sym (+ℤ_assoc a c (b +ℤ d))

neg_mul : (b c : ℤ) → neg_ℤ b *ℤ c ≡ neg_ℤ (b *ℤ c)
neg_mul (pos zero) c = rw (zero-*ℤ c)
neg_mul (pos (suc n)) (pos m) = refl
neg_mul (pos (suc n)) (negsuc m) = sym (neg_ℤ-neg_ℤ (pos (suc n) *ℤ pos (suc m)))
neg_mul (negsuc n) (pos m) = sym (neg_ℤ-neg_ℤ (pos (suc n) *ℤ pos m))
neg_mul (negsuc n) (negsuc m) = refl

-- from 0 up, and from 0 down
stepwise : (P : ℤ → Type 0) → P (pos 0) → ((a : ℤ) → P a → P (suc_ℤ a)) → ((a : ℤ) → P a → P (pred_ℤ a)) → (a : ℤ) → P a
stepwise P z up down (pos n) = rises n
  where
    rises : (n : ℕ) → P (pos n)
    rises zero = z
    rises (suc n) = up (pos n) (rises n)
stepwise P z up down (negsuc n) = falls n
  where
    falls : (n : ℕ) → P (negsuc n)
    falls zero = down (pos 0) z
    falls (suc n) = down (negsuc n) (falls n)

module _ (b c : ℤ) where
  add_up : (a : ℤ) → a *ℤ (b +ℤ c) ≡ a *ℤ b +ℤ a *ℤ c → suc_ℤ a *ℤ (b +ℤ c) ≡ suc_ℤ a *ℤ b +ℤ suc_ℤ a *ℤ c
  add_up a h = rw (suc_ℤ-*ℤ a (b +ℤ c), suc_ℤ-*ℤ a b, suc_ℤ-*ℤ a c, h) (swap4 (a *ℤ b) (a *ℤ c) b c)

  add_down : (a : ℤ) → a *ℤ (b +ℤ c) ≡ a *ℤ b +ℤ a *ℤ c → pred_ℤ a *ℤ (b +ℤ c) ≡ pred_ℤ a *ℤ b +ℤ pred_ℤ a *ℤ c
  add_down a h = rw (pred_ℤ-*ℤ a (b +ℤ c), pred_ℤ-*ℤ a b, pred_ℤ-*ℤ a c, h, neg_ℤ-+ℤ b c) (swap4 (a *ℤ b) (a *ℤ c) (neg_ℤ b) (neg_ℤ c))

  mul_add : (a : ℤ) → a *ℤ (b +ℤ c) ≡ a *ℤ b +ℤ a *ℤ c
  mul_add =
      stepwise (λ (a : ℤ). a *ℤ (b +ℤ c) ≡ a *ℤ b +ℤ a *ℤ c) (rw (zero-*ℤ (b +ℤ c), zero-*ℤ b, zero-*ℤ c)) add_up add_down

  add_mul : (a : ℤ) → (b +ℤ c) *ℤ a ≡ b *ℤ a +ℤ c *ℤ a
  add_mul a = rw (*ℤ_comm (b +ℤ c) a, *ℤ_comm b a, *ℤ_comm c a) (mul_add a)

module _ (b c : ℤ) where
  assoc_up : (a : ℤ) → a *ℤ b *ℤ c ≡ a *ℤ (b *ℤ c) → suc_ℤ a *ℤ b *ℤ c ≡ suc_ℤ a *ℤ (b *ℤ c)
  assoc_up a h = rw (suc_ℤ-*ℤ a b, suc_ℤ-*ℤ a (b *ℤ c), add_mul (a *ℤ b) b c, h)

  assoc_down : (a : ℤ) → a *ℤ b *ℤ c ≡ a *ℤ (b *ℤ c) → pred_ℤ a *ℤ b *ℤ c ≡ pred_ℤ a *ℤ (b *ℤ c)
  assoc_down a h = rw (pred_ℤ-*ℤ a b, pred_ℤ-*ℤ a (b *ℤ c), add_mul (a *ℤ b) (neg_ℤ b) c, h, neg_mul b c)

  mul_assoc : (a : ℤ) → a *ℤ b *ℤ c ≡ a *ℤ (b *ℤ c)
  mul_assoc =
      stepwise (λ (a : ℤ). a *ℤ b *ℤ c ≡ a *ℤ (b *ℤ c)) (rw (zero-*ℤ b, zero-*ℤ c, zero-*ℤ (b *ℤ c))) assoc_up assoc_down

shift : (a u b : ℤ) → a *ℤ u *ℤ u *ℤ b ≡ u *ℤ (a *ℤ (b *ℤ u))
shift a u b =
    mul_assoc u b (a *ℤ u)
    ∙ ap (λ (z : ℤ). z *ℤ (u *ℤ b)) (*ℤ_comm a u)
    ∙ mul_assoc a (u *ℤ b) u
    ∙ ap (λ (z : ℤ). u *ℤ (a *ℤ z)) (*ℤ_comm u b)

-- ---- finite sums
sum_cong : (n : ℕ) (f g : ℕ → ℤ) → ((k : ℕ) → k < n → f k ≡ g k) → sum_below n f ≡ sum_below n g
unfolding sum_below
sum_cong zero f g h = refl
sum_cong (suc n) f g h = rw (sum_cong n f g (λ k l. h k (omega arith)), h n (omega arith))

sum_zero : (n : ℕ) → sum_below n (λ k. pos 0) ≡ pos 0
unfolding sum_below
sum_zero zero = refl
sum_zero (suc n) = rw (sum_zero n)

sum_add : (n : ℕ) (f g : ℕ → ℤ) → sum_below n (λ k. f k +ℤ g k) ≡ sum_below n f +ℤ sum_below n g
unfolding sum_below
sum_add zero f g = refl
sum_add (suc n) f g = rw (sum_add n f g) (swap4 (sum_below n f) (sum_below n g) (f n) (g n))

sum_mul : (c : ℤ) (n : ℕ) (f : ℕ → ℤ) → sum_below n (λ k. c *ℤ f k) ≡ c *ℤ sum_below n f
unfolding sum_below
sum_mul c zero f = sym (*ℤ-zero c)
sum_mul c (suc n) f = rw (sum_mul c n f) (sym (mul_add (sum_below n f) (f n) c))

sum_swap : (n m : ℕ) (f : ℕ → ℕ → ℤ) → sum_below n (λ i. sum_below m (f i)) ≡ sum_below m (λ j. sum_below n (λ i. f i j))
unfolding sum_below
sum_swap zero m f = sym (sum_zero m)
sum_swap (suc n) m f = rw (sum_swap n m f) (sym (sum_add m (λ j. sum_below n (λ i. f i j)) (f n)))

-- of the terms c g 0, .. only that at k, with the others 0
sum_others : (c : ℤ) (k n : ℕ) (g : ℕ → ℤ) → n ≤ k → sum_below n (λ r. cond (eqb k r) c (pos 0) *ℤ g r) ≡ pos 0
unfolding sum_below
sum_others c k zero g h = refl
sum_others c k (suc n) g h = rw (sum_others c k n g (omega arith), ne_eqb k n (omega arith), zero-*ℤ (g n))

sum_pick : (c : ℤ) (k n : ℕ) (g : ℕ → ℤ) → k < n → sum_below n (λ r. cond (eqb k r) c (pos 0) *ℤ g r) ≡ c *ℤ g k
unfolding sum_below
sum_pick c k zero g h = absurd (not-suc-le-zero h)
sum_pick c k (suc n) g h = go (eq-or-lt_of_le {n = k} {m = n} (omega arith)) (sum_pick c k n g)
  where
    before : ℤ
    before = sum_below n (λ r. cond (eqb k r) c (pos 0) *ℤ g r)

    go : (k ≡ n) ⊎ (k < n) → (k < n → before ≡ c *ℤ g k) → before +ℤ cond (eqb k n) c (pos 0) *ℤ g n ≡ c *ℤ g k
    go (inl e) i = rw (sum_others c k n g (omega arith), eq-eqb k n e, ← e) (+ℤ_idl (c *ℤ g k))
    go (inr l) i = rw (i l, ne_eqb k n (omega arith), zero-*ℤ (g n)) (+ℤ_idr (c *ℤ g k))

-- ---- the rearrangement: A B = I and β = B R of m rows in units of 1 / u, so A β = R
module _ (m : ℕ) (u : ℤ) (A B : ℕ → ℕ → ℤ) (R beta : ℕ → ℤ)
    (inverse : (k r : ℕ) → k < m → r < m → sum_below m (λ q. A k q *ℤ B q r) ≡ cond (eqb k r) (u *ℤ u) (pos 0))
    (coefficients : (q : ℕ) → q < m → sum_below m (λ r. B q r *ℤ R r) ≡ beta q *ℤ u) where
  -- the terms of row k of (A B) R
  column : (k r : ℕ) → k < m → r < m → sum_below m (λ q. A k q *ℤ (B q r *ℤ R r)) ≡ cond (eqb k r) (u *ℤ u) (pos 0) *ℤ R r
  column k r h l =
      sum_cong m (λ q. A k q *ℤ (B q r *ℤ R r)) (λ q. R r *ℤ (A k q *ℤ B q r))
      (λ q j. sym (mul_assoc (B q r) (R r) (A k q)) ∙ *ℤ_comm (A k q *ℤ B q r) (R r))
      ∙ sum_mul (R r) m (λ q. A k q *ℤ B q r)
      ∙ ap (λ (z : ℤ). R r *ℤ z) (inverse k r h l)
      ∙ *ℤ_comm (R r) (cond (eqb k r) (u *ℤ u) (pos 0))

  solved : (k : ℕ) → k < m → sum_below m (λ q. A k q *ℤ (beta q *ℤ u)) ≡ R k *ℤ (u *ℤ u)
  solved k h =
      sum_cong m (λ q. A k q *ℤ (beta q *ℤ u)) (λ q. sum_below m (λ r. A k q *ℤ (B q r *ℤ R r)))
      (λ q l. ap (λ (z : ℤ). A k q *ℤ z) (sym (coefficients q l)) ∙ sym (sum_mul (A k q) m (λ r. B q r *ℤ R r)))
      ∙ sum_swap m m (λ q r. A k q *ℤ (B q r *ℤ R r))
      ∙ sum_cong m (λ r. sum_below m (λ q. A k q *ℤ (B q r *ℤ R r))) (λ r. cond (eqb k r) (u *ℤ u) (pos 0) *ℤ R r) (λ r l. column k r h l)
      ∙ sum_pick (u *ℤ u) k m R h
      ∙ *ℤ_comm (u *ℤ u) (R k)

  -- the same of G = A and M = R in units of 1 / u³
  published : (k : ℕ) (G : ℕ → ℤ) (M : ℤ) → k < m → ((q : ℕ) → q < m → G q ≡ A k q *ℤ u *ℤ u) → M ≡ R k *ℤ u *ℤ u
      → sum_below m (λ q. G q *ℤ beta q) ≡ M *ℤ u
  published k G M h g e =
      sum_cong m (λ q. G q *ℤ beta q) (λ q. u *ℤ (A k q *ℤ (beta q *ℤ u)))
      (λ q l. ap (λ (z : ℤ). z *ℤ beta q) (g q l) ∙ shift (A k q) u (beta q))
      ∙ sum_mul u m (λ q. A k q *ℤ (beta q *ℤ u))
      ∙ ap (λ (z : ℤ). u *ℤ z) (solved k h)
      ∙ *ℤ_comm u (R k *ℤ (u *ℤ u))
      ∙ ap (λ (z : ℤ). z *ℤ u) (sym (mul_assoc u u (R k)) ∙ sym e)

-- ---- the theorems

-- cell (k, q) of A, and of the inverse of the eliminated matrix a of m rows, in units
abbrev pub matrix_at : Equations → ℕ → ℕ → ℤ
matrix_at e k q = units_of (mirrored_cell e.a k q)

abbrev pub inverse_at : Matrix → ℕ → ℕ → ℕ → ℤ
inverse_at a m k q = units_of (inverse_cell a m k q)

-- the coefficients of an exact inverse solve the equations as computed, A β row by row
pub inverse_solves : (u : Setup) (d : Data) (w : Row) (e : Equations) (a : Matrix) (beta : Row) → Exact u d w e a beta → (k : ℕ) → k < u.p + 1
    → sum_below (u.p + 1) (λ q. matrix_at e k q *ℤ (cell_at beta q *ℤ units_of_one)) ≡ cell_at e.rhs k *ℤ (units_of_one *ℤ units_of_one)
inverse_solves u d w e a beta c = solved (u.p + 1) units_of_one (matrix_at e) (inverse_at a (u.p + 1)) (cell_at e.rhs) (cell_at beta) c.inverse c.coefficients

-- (XᵀWX) β = XᵀWy of exact equations, inverse and coefficients, for any number of predictors and observations
pub exact_solves : (u : Setup) (d : Data) (w : Row) (a : Matrix) (beta : Row) → Exact u d w (equations_of u d w) a beta → Solves u d w beta
exact_solves u d w a beta c =
    let m = u.p + 1 in
    let s = equations_of u d w in
    λ k h.
    published m units_of_one (matrix_at s) (inverse_at a m) (cell_at s.rhs) (cell_at beta) c.inverse c.coefficients
    k (λ q. moment_at u d w (design_at u d w q) k) (moment_at u d w (cell_at d.responses) k) h (λ q l. c.matrix k q h l) (c.right k h)

-- and so of an exact fit
pub normal_equations : (u : Setup) (d : Data) (w : Row) (sum : Float) (c : Coefficients) → ExactFit u d w sum c → Solves u d w c.beta
normal_equations u d w sum c e = exact_solves u d w c.inverse c.beta e.1
