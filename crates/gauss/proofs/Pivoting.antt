-- The pivot's row is one of the matrix; where it is too small, nothing comes of the elimination.
use Prim.Native.Nat.{ℕ, ◌+◌, ◌<◌, ◌≤◌}
use mathlib.Core.Bool.{Bool, true, false, cond}
use native.Mathlib.Omega.{arith}
use mathlib.Core.Path.{◌≡◌, refl, sym, ap, ◌∙◌}
use lib.Ieee.{lt}
use Rattle.std.specs.Prelude.{Result, Ok, Err}
use Rattle.real.specs.Fold.{range}
use Rattle.real.specs.Reals.{magnitude}
use Rattle.real.proofs.Fold.{Range, more, kept, split}
use Rattle.gauss.specs.declared.Pivot.{Pivot}
use Rattle.real.specs.Matrix.{Matrix}
use Rattle.gauss.specs.Gauss.{cell, pivot_step, pivot_of, least_pivot, gauss_step, try_step, elimination}

one_of : (n : ℕ) (t : Bool) (p q : Pivot) → p.row < n → q.row < n → (cond t p q).row < n
one_of n true p q g h = g
one_of n false p q g h = h

pub pivot_row : (a : Matrix) (i n : ℕ) → i < n → (pivot_of a i n).row < n
unfolding pivot_of pivot_step
pivot_row a i n h =
    kept (pivot_step a i) (i + 1) n (λ (p : Pivot). p.row < n) (λ k p l q. one_of n (lt p.val (magnitude (cell a k i))) _ p l q) _ (omega arith) h

module _ (n m : ℕ) where
  -- after a turn that has returned nothing is done
  ended : (a : Matrix) (i : ℕ) → i ≤ n → range (try_step n m) i n (Err a) ≡ Err a
  unfolding try_step
  ended a i h = kept (try_step n m) i n (λ (s : Result Matrix Matrix). s ≡ Err a) (λ k s l e. ap (try_step n m k) e) (Err a) h refl

  pub stopped : {a r : Matrix} {i : ℕ} → Range (try_step n m) (Ok a) 0 n i (Ok r) → i < n → lt (pivot_of r i n).val least_pivot ≡ true → Err r ≡ elimination a n m
  unfolding elimination try_step gauss_step
  stopped {a} {r} {i} turned h t =
      let low : 0 ≤ i + 1 = omega arith in
      let high : i + 1 ≤ n = omega arith in
      let here : Err r ≡ range (try_step n m) 0 (i + 1) (Ok a) = (more turned h (sym (rw t))).is in
      sym (ended r (i + 1) high) ∙ ap (range (try_step n m) (i + 1) n) here ∙ split (try_step n m) (Ok a) 0 (i + 1) n low high
