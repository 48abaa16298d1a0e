-- Inner products of two lists and folds over their places; tests of each element and of each place. Assumes nothing.
use mathlib.Core.Path.{◌≡◌, refl, sym, ap, ap₂, ◌∙◌}
use mathlib.Core.Bool.{Bool, true, ◌&&◌}
use mathlib.Core.List.{List, [], ◌∷◌}
use Prim.Native.Nat.{ℕ, zero, suc, ◌+◌, ◌-◌, ◌≤◌, ◌<◌}
use native.Mathlib.Nat.{sub-zero}
use native.Mathlib.Numerals.{add-one}
use native.Mathlib.Omega.{arith}
use lib.ListN.{length, take, drop, get_or, length-drop}
use lib.Seq.{length-take-le, get_or-take, take-length}
use lib.Ieee.{Float, nan}
use lib.Ieee.Scale.{finite}
use Rattle.std.specs.List.{fold, zip, list_all}
use Rattle.std.proofs.lemmas.List.{get_or-drop}
use Rattle.std.proofs.lemmas.List.Folds.{list_all_more}
use Rattle.real.specs.Fold.{turns, range}
use Rattle.real.specs.Reals.{zero64}
use Rattle.real.specs.Finite.{all_of, all_finite}
use Rattle.real.proofs.Fold.{front}
use Rattle.real.specs.Matrix.{Row, Matrix}
use Rattle.estimate.specs.Inner.{plus_product, product_sum}
use Rattle.estimate.specs.Inverse.{inverse_cell, inverse_step, inverse_times, all_step, all_below, inverse_row_finite}
use Rattle.estimate.specs.Estimate.{coefficients_finite}

-- a fold over the places from a on, each of which adds a product
module _ (f : ℕ → Float → Float) where
  pub inner_range : (a : ℕ) (start : Float) (u v : Row) → length u ≡ length v → ((q : ℕ) → q < length u → (s : Float) → plus_product s (get_or u q nan, get_or v q nan) ≡ f (a + q) s)
      → product_sum start u v ≡ range f a (a + length u) start
  unfolding product_sum range turns
  inner_range a start [] v e h = let z : a + 0 - a ≡ 0 = omega arith in rw z
  inner_range a start (x ∷ u) [] e h = absurd (omega arith)
  inner_range a start (x ∷ u) (y ∷ v) e h =
      let here : a + 0 ≡ a = omega arith in
      let end : a + 1 + length u ≡ a + suc (length u) = omega arith in
      ap (λ (s : Float). fold plus_product s (zip u v)) (h 0 (omega arith) start ∙ ap (λ (i : ℕ). f i start) here)
      ∙ inner_range (a + 1) (f a start) u v (omega arith) (λ q k s. let on : a + suc q ≡ a + 1 + q = omega arith in h (suc q) (omega arith) s ∙ ap (λ (i : ℕ). f i s) on)
      ∙ ap (λ (i : ℕ). range f (a + 1) i (f a start)) end
      ∙ sym (front f a start (a + suc (length u)) (omega arith))

-- row p of the inverse stands in the eliminated row from cell m on
pub inverse_inner : (a : Matrix) (m p : ℕ) (v : Row) {k : ℕ} → k ≡ m → m + m ≤ length (get_or a p []) → m ≤ length v
    → product_sum zero64 (take k (drop m (get_or a p []))) (take m v) ≡ inverse_times a m p v
unfolding inverse_times inverse_step inverse_cell
inverse_inner a m p v {k} e h g =
    let row = get_or a p [] in
    let long : length (take m (drop m row)) ≡ m = length-take-le m (drop m row) (omega (arith, length-drop m row)) in
    ap (λ (i : ℕ). product_sum zero64 (take i (drop m row)) (take m v)) e
    ∙ inner_range (inverse_step a m p v) 0 zero64 (take m (drop m row)) (take m v) (long ∙ sym (length-take-le m v g))
    (λ q l s. let z : 0 + q ≡ q = omega arith in let below : q < m = omega arith in rw (z, get_or-take m (drop m row) q nan below, get_or-drop m row q nan, get_or-take m v q nan below))
    ∙ ap (λ (i : ℕ). range (inverse_step a m p v) 0 i zero64) (let z : 0 + length (take m (drop m row)) ≡ m = omega arith in z)

-- ---- a test of each element is one of each place
module _ {X : Type 0} (g : X → Bool) (f : ℕ → Bool) (xs : List X) (d : X) (same : (q : ℕ) → q < length xs → g (get_or xs q d) ≡ f q) where
  all_turns : (n : ℕ) → n ≤ length xs → list_all g (take n xs) ≡ turns (all_step f) 0 n true
  unfolding turns all_step
  all_turns zero h = refl
  all_turns (suc n) h =
      let z : 0 + n ≡ n = omega arith in
      ap (λ (i : ℕ). list_all g (take i xs)) (sym (add-one n))
      ∙ list_all_more g xs n d (omega arith)
      ∙ ap₂ (λ (a b : Bool). a && b) (all_turns n (omega arith)) (same n (omega arith) ∙ ap f (sym z))

  pub all_places : list_all g xs ≡ all_below f (length xs)
  unfolding all_below range
  all_places = ap (list_all g) (sym (take-length xs)) ∙ rw sub-zero (all_turns (length xs) (omega arith))

finite_all : (l : List Float) → all_finite l ≡ list_all finite l
unfolding all_of
finite_all [] = refl
finite_all (x ∷ l) = ap (λ (b : Bool). finite x && b) (finite_all l)

pub coefficients_tested : (beta : Row) (m : ℕ) → m ≤ length beta → all_finite (take m beta) ≡ coefficients_finite beta m
unfolding coefficients_finite
coefficients_tested beta m h =
    let long = length-take-le m beta h in
    finite_all (take m beta)
    ∙ all_places finite (λ q. finite (get_or beta q nan)) (take m beta) nan (λ q k. ap finite (get_or-take m beta q nan (omega arith)))
    ∙ ap (all_below (λ q. finite (get_or beta q nan))) long

pub row_tested : (a : Matrix) (m p k : ℕ) (row : Row) → row ≡ get_or a p [] → k ≡ m → m + m ≤ length row → all_finite (take k (drop m row)) ≡ inverse_row_finite a m p
unfolding inverse_row_finite inverse_cell
row_tested a m p k row is e h =
    let long = length-take-le m (drop m row) (omega (arith, length-drop m row)) in
    ap (λ (i : ℕ). all_finite (take i (drop m row))) e
    ∙ finite_all (take m (drop m row))
    ∙ all_places finite (λ q. finite (inverse_cell a m p q)) (take m (drop m row)) nan
    (λ q l. ap finite (get_or-take m (drop m row) q nan (omega arith) ∙ get_or-drop m row q nan) ∙ ap (λ (r : Row). finite (get_or r (m + q) nan)) is)
    ∙ ap (all_below (λ q. finite (inverse_cell a m p q))) long
