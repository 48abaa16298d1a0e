-- What `select` makes of counting. Assumes nothing.
use mathlib.Core.Path.{◌≡◌, sym, subst, ◌∙◌}
use mathlib.Core.Bool.{Bool, true}
use mathlib.Core.Logic.{◌⊎◌, inl, inr}
use mathlib.Core.List.{List}
use Prim.Native.Nat.{ℕ, ◌^◌, ◌<◌}
use native.Mathlib.Omega.{arith}
use lib.Dec.{T}
use lib.ListN.{length}
use Rattle.std.specs.List.{count_by}
use lib.Ieee.{Float, lt}
use Rattle.std.proofs.lemmas.List.Sums.{count_by-le-length}
use Rattle.selection.specs.Kth.{is_kth, kth_smallest}
use Rattle.selection.proofs.Kths.{kth_none}

module _ (s : List Float) (m : ℕ) where
  pub selected : (v : Float) {b : Bool} {A : Type 0} → b ≡ is_kth s m v → b ≡ true → T (is_kth s m v) ⊎ A
  selected v e t = inl (subst T (sym (sym e ∙ t)) tt)

  pub selected_few : (g : Float) → length s < m → T (is_kth s m g) ⊎ (g ≡ kth_smallest s m g)
  selected_few g h = inr (kth_none s m g h)

pub few_below : (s : List Float) (v : Float) {c : ℕ} → c ≡ count_by (λ x. lt x v) s → length s < 2 ^ 32 → c < 2 ^ 32
few_below s v e h = let a = count_by-le-length (λ x. lt x v) s in omega arith
