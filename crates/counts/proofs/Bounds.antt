-- The default count and a count that is given are the chosen ones, and a resolved one is from 1 to 512. Assumes nothing.
use mathlib.Core.Path.{◌≡◌, sym, ap, ◌∙◌}
use Prim.Native.Nat.{ℕ, ◌+◌, ◌≤◌, max}
use native.Mathlib.Omega.{arith}
use borrow.Author.Tests.{eq-eqb, ne_eqb}
use Rattle.counts.specs.Count.{ceil_root, chosen_count, resolve_count}

module _ (k n p : ℕ) where
  pub chosen_none : {a r : ℕ} → k ≡ 0 → a ≡ ceil_root n → r ≡ max (p + 3) a → r ≡ chosen_count k n p
  unfolding chosen_count
  chosen_none t e f = f ∙ ap (λ (c : ℕ). max (p + 3) c) e ∙ sym (rw (eq-eqb k 0 t))

  pub chosen_given : (k ≡ 0 → ⊥) → k ≡ chosen_count k n p
  unfolding chosen_count
  chosen_given t = sym (rw (ne_eqb k 0 t))

  pub resolve_some : 1 ≤ resolve_count k n p
  unfolding resolve_count
  resolve_some = omega arith

  pub resolve_few : n ≤ 512 → resolve_count k n p ≤ 512
  unfolding resolve_count
  resolve_few h = omega arith
