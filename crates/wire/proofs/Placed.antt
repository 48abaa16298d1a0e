-- A row laid over a part of a list: a longer row in two steps, and one element.
use mathlib.Core.Path.{◌≡◌, sym, ap, ◌∙◌}
use mathlib.Core.List.{List, [], ◌∷◌, ◌++◌, append_assoc}
use Prim.Native.Nat.{ℕ, ◌+◌, ◌≤◌, ◌<◌}
use native.Mathlib.Numerals.{add-one}
use native.Mathlib.Omega.{arith}
use lib.ListN.{length, take, drop, set, length-append, length-drop}
use lib.Seq.{length-take-le, set_split, take_at, drop_at, drop-drop}
use Rattle.wire.specs.Wire.{placed}

module _ {A : Type 0} where
  pub length_placed : (d : List A) (at : ℕ) (row : List A) → at + length row ≤ length d → length (placed d at row) ≡ length d
  unfolding placed
  length_placed d at row h = simp (length-append, length-drop) (omega (arith, length-take-le at d (omega arith)))

  -- a row, and another from its end on
  pub placed_more : (d : List A) (at : ℕ) (row more : List A) → at + length row + length more ≤ length d
      → placed (placed d at row) (at + length row) more ≡ placed d at (row ++ more)
  unfolding placed
  placed_more d at row more h =
      let n : ℕ = at + length row in
      let front : List A = take at d ++ row in
      let long : length front ≡ n = length-append (take at d) row ∙ ap (λ (k : ℕ). k + length row) (length-take-le at d (omega arith)) in
      let whole : take at d ++ (row ++ drop n d) ≡ front ++ drop n d = sym (append_assoc (take at d) row (drop n d)) in
      let rest : drop (n + length more) (front ++ drop n d) ≡ drop (n + length more) d =
      sym (drop-drop (length more) n (front ++ drop n d)) ∙ ap (drop (length more)) (drop_at front (drop n d) n long) ∙ drop-drop (length more) n d in
      let end : n + length more ≡ at + length (row ++ more) = rw length-append (omega arith) in
      ap (λ (x : List A). take n x ++ (more ++ drop (n + length more) x)) whole
      ∙ ap (λ (x : List A). x ++ (more ++ drop (n + length more) (front ++ drop n d))) (take_at front (drop n d) n long)
      ∙ ap (λ (x : List A). front ++ (more ++ x)) rest
      ∙ append_assoc (take at d) row (more ++ drop (n + length more) d)
      ∙ ap (λ (x : List A). take at d ++ x) (sym (append_assoc row more (drop (n + length more) d)))
      ∙ ap (λ (k : ℕ). take at d ++ ((row ++ more) ++ drop k d)) end

  -- nothing, and one element
  pub placed_one : (d : List A) (at : ℕ) (a : A) → at < length d → set d at a ≡ placed d at (a ∷ [])
  unfolding placed
  placed_one d at a h = rw add-one (set_split d at a h)
