-- A loop over the first elements of a list that changes each in its place, with the others behind them: what its invariant and its turn ask.
use Rattle.std.proofs.Common.{◌≡◌, ℕ, ◌+◌, ◌<◌, List, ◌++◌, length, get_or, take, drop, sym, ap, ◌∙◌, arith}
use lib.ListN.{set, take-append-drop}
use Rattle.std.proofs.lemmas.List.{get_or_append_left, set-append_left}
use Rattle.real.proofs.Fold.{Range, none, more}

module _ {A : Type 0} {f : ℕ → List A → List A} where
  -- of the first m, none is changed yet
  pub untouched : (m : ℕ) (l : List A) → Range f l 0 m 0 (take m l ++ drop m l)
  untouched m l = rw (take-append-drop m l) (none (omega arith))

  -- element j becomes v, where a turn makes g of it
  pub changed : (g : ℕ → A → A) (d : A) → ((k : ℕ) (s : List A) → f k s ≡ set s k (g k (get_or s k d)))
      → {l : List A} {m j : ℕ} (front rest : List A) (v : A)
      → Range f l 0 m j (front ++ rest) → j < m → j < length front → v ≡ g j (get_or front j d) → Range f l 0 m (j + 1) (set front j v ++ rest)
  changed g d turn {l} {m} {j} front rest v r h within e =
      more r h
      (sym (set-append_left front rest j v within)
      ∙ ap (set (front ++ rest) j) (e ∙ ap (g j) (sym (get_or_append_left front rest d j within)))
      ∙ sym (turn j (front ++ rest)))
