-- The cells of a design row: 1, and the predictors of its observation; and what adding an observation does first, by that 1.
use mathlib.Core.Path.{◌≡◌, refl, sym, ap, ◌∙◌}
use mathlib.Core.List.{List, [], ◌∷◌, ◌++◌, append_assoc}
use mathlib.Core.Logic.{inl, inr}
use Prim.Native.Nat.{ℕ, zero, suc, ◌+◌, ◌*◌, ◌≤◌, ◌<◌}
use native.Mathlib.Nat.{sub-zero, zero-add, not-suc-le-zero, le_of_suc-le-suc, eq-or-lt_of_le, le_trans, le_of_eq, suc-mul, mul-le-mul_right}
use native.Mathlib.Omega.{arith}
use borrow.Author.Rules.{read_below}
use lib.ListN.{length, take, drop, get_or, set, replicate, length-set, length-drop}
use lib.Seq.{get_or-set_same, length-take-le, get_or-take, set_at, take-suc, drop-cons, take-length}
use Rattle.std.proofs.lemmas.List.{get_or-drop}
use lib.Ieee.{Float, nan, binary64, add, mul}
use Rattle.real.specs.Matrix.{Row}
use Rattle.real.specs.Fold.{turns, range}
use Rattle.real.specs.Reals.{zero64, one64}
use Rattle.normal.specs.Design.{design_step, design_row, predictors_of, design_of}
use Rattle.normal.specs.declared.equations.Equations.{Equations}
use Rattle.normal.specs.Equations.{cell_step, add_row, observe_step, observe}
use Rattle.real.proofs.Fold.{front, related}

module _ (x : List Float) (p j : ℕ) where
  -- the design row with its first n predictors in place
  unfoldable filled : ℕ → Row
  filled n = turns (design_step x p j) 0 n (set (replicate 8 zero64) 0 one64)

  filled_long : (n : ℕ) → length (filled n) ≡ 8
  unfolding filled turns design_step
  filled_long zero = refl
  filled_long (suc n) = length-set (filled n) _ _ ∙ filled_long n

  filled_first : (n : ℕ) → get_or (filled n) 0 nan ≡ one64
  unfolding filled turns design_step
  filled_first zero = refl
  filled_first (suc n) = read_below Float (filled n) (0 + n + 1) 0 _ nan one64 (omega arith) (filled_first n)

  filled_next : (n q : ℕ) → n ≤ 7 → q < n → get_or (filled n) (q + 1) nan ≡ get_or x (j * p + q) nan
  unfolding filled turns design_step
  filled_next zero q few h = absurd (not-suc-le-zero h)
  filled_next (suc n) q few h =
      elim (eq-or-lt_of_le (le_of_suc-le-suc h)) [
        | inl e ↦ rw (e, zero-add n) (get_or-set_same (filled n) (n + 1) (get_or x (j * p + n) nan) nan (omega (arith, filled_long n)))
        | inr l ↦ read_below Float (filled n) (0 + n + 1) (q + 1) _ nan _ (omega arith) (filled_next n q (omega arith) l)
      ]

  pub design_first : get_or (design_row x p j) 0 nan ≡ one64
  unfolding design_row range filled
  design_first = rw sub-zero (filled_first p)

  pub design_next : (q : ℕ) → p ≤ 7 → q < p → get_or (design_row x p j) (q + 1) nan ≡ get_or x (j * p + q) nan
  unfolding design_row range filled
  design_next q few h = rw sub-zero (filled_next p q few h)

  -- row 0 of the triangle: first the cell of the 1
  pub row_front : (wx : Float) (row : Row)
      → add_row wx (design_row x p j) 0 (p + 1) row ≡ add_row wx (design_row x p j) 1 (p + 1) (set row 0 (add binary64 (get_or row 0 nan) (mul binary64 wx one64)))
  unfolding add_row cell_step
  row_front wx row = front (cell_step wx (design_row x p j)) 0 row (p + 1) (omega arith) ∙ rw design_first

  -- an observation: first row 0
  pub observe_front : (w y : Float) (e : Equations)
      → observe w (design_row x p j) y (p + 1) e
      ≡ range (observe_step w (design_row x p j) y (p + 1)) 1 (p + 1) (record { a = set e.a 0 (add_row (mul binary64 w one64) (design_row x p j) 0 (p + 1) (get_or e.a 0 [])); rhs = set e.rhs 0 (add binary64 (get_or e.rhs 0 nan) (mul binary64 (mul binary64 w one64) y)) })
  unfolding observe observe_step
  observe_front w y e = front (observe_step w (design_row x p j) y (p + 1)) 0 e (p + 1) (omega arith) ∙ rw design_first

-- ---- the predictors of an observation alone
module _ (x : List Float) (p j : ℕ) (h : j * p + p ≤ length x) where
  pub own_long : length (predictors_of x p j) ≡ p
  own_long = length-take-le p (drop (j * p) x) (omega (arith, length-drop (j * p) x))

  own_cell : (q : ℕ) → q < p → get_or (predictors_of x p j) q nan ≡ get_or x (j * p + q) nan
  own_cell q k = get_or-take p (drop (j * p) x) q nan k ∙ get_or-drop (j * p) x q nan

  pub design_alone : design_of (predictors_of x p j) ≡ design_row x p j
  unfolding design_row design_step
  design_alone =
      ap (λ (n : ℕ). design_row (predictors_of x p j) n 0) own_long
      ∙ related (design_step (predictors_of x p j) p 0) (design_step x p j) 0 p (λ r s. r ≡ s) step _ _ (omega arith) refl
    where
      step : (q : ℕ) (r s : Row) → q < p → r ≡ s → design_step (predictors_of x p j) p 0 q r ≡ design_step x p j q s
      step q r s k e = let z : 0 * p + q ≡ q = omega arith in rw (z, own_cell q k, e)

-- row j of n rows lies within them
pub own_within : (x : List Float) (n p j : ℕ) → length x ≡ n * p → j < n → j * p + p ≤ length x
own_within x n p j e h = le_trans (le_trans (le_of_eq (sym (suc-mul j p))) (mul-le-mul_right p h)) (le_of_eq (sym e))

pub observed : (x : List Float) (n p j : ℕ) → length x ≡ n * p → j < n → {own : List Float} → own ≡ predictors_of x p j → (w y : Float) (e : Equations) {f : Equations}
    → f ≡ observe w (design_of own) y (length own + 1) e → f ≡ observe w (design_row x p j) y (p + 1) e
observed x n p j long h {own} is w y e r =
    let within = own_within x n p j long h in
    r
    ∙ ap (λ (o : List Float). observe w (design_of o) y (length o + 1) e) is
    ∙ ap (λ (m : ℕ). observe w (design_of (predictors_of x p j)) y (m + 1) e) (own_long x p j within)
    ∙ ap (λ (d : Row). observe w d y (p + 1) e) (design_alone x p j within)

pub own_next : (own : List Float) (q : ℕ) → length own ≤ 7 → q < length own → get_or (design_of own) (q + 1) nan ≡ get_or own q nan
own_next own q few h = let z : 0 * length own + q ≡ q = omega arith in design_next own (length own) 0 q few h ∙ ap (λ (i : ℕ). get_or own i nan) z

-- predictors copied in behind the 1
copied_turns : (own : List Float) (p : ℕ) (a : Float) (z : Row) (n : ℕ) → n ≤ length own → n ≤ length z → turns (design_step own p 0) 0 n (a ∷ z) ≡ a ∷ (take n own ++ drop n z)
unfolding turns design_step
copied_turns own p a z zero h k = refl
copied_turns own p a z (suc n) h k =
    let at : 0 + n + 1 ≡ suc n = omega arith in
    let from : 0 * p + (0 + n) ≡ n = omega arith in
    rw (at, from, copied_turns own p a z n (omega arith) (omega arith), take-suc own n nan h, drop-cons z n nan k)
    (ap (λ (l : Row). a ∷ l) (set_at (take n own) (get_or z n nan) (drop (suc n) z) (get_or own n nan) n (length-take-le n own (omega arith)) ∙ sym (append_assoc (take n own) (get_or own n nan ∷ []) (drop (suc n) z))))

pub copied_in : (own : List Float) (k : ℕ) → length own ≤ 7 → k ≡ length own → one64 ∷ (own ++ drop k (replicate 7 zero64)) ≡ design_of own
unfolding design_row range
copied_in own k few e =
    ap (λ (i : ℕ). one64 ∷ (own ++ drop i (replicate 7 zero64))) e
    ∙ sym (rw sub-zero (copied_turns own (length own) one64 (replicate 7 zero64) (length own) (omega arith) few) ∙ ap (λ (l : Row). one64 ∷ (l ++ drop (length own) (replicate 7 zero64))) (take-length own))
