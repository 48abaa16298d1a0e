-- Counting the numbers of a list that pass a test: the more that pass, and one that makes it so. Assumes nothing.
use mathlib.Core.Path.{◌≡◌, refl, sym, subst}
use mathlib.Core.Bool.{Bool, true, false, not, cond}
use mathlib.Core.List.{List, [], ◌∷◌}
use Prim.Native.Nat.{ℕ, suc, ◌+◌, ◌≤◌, ◌<◌}
use native.Mathlib.Nat.{not-suc-le-zero, le_antisymm}
use native.Mathlib.Omega.{arith}
use lib.Dec.{T}
use lib.ListN.{length, get_or}
use lib.Ieee.{Float, nan}
use Rattle.std.specs.List.{count_by}
use Rattle.std.proofs.lemmas.List.Sums.{sum_by-cons}

count_cons : (p : Float → Bool) (x : Float) (s : List Float) → count_by p (x ∷ s) ≡ cond (p x) 1 0 + count_by p s
count_cons p x s = sum_by-cons (λ y. cond (p y) 1 0) x s

module _ (p q : Float → Bool) where
  pub count_mono : (s : List Float) → ((x : Float) → T (p x) → T (q x)) → count_by p s ≤ count_by q s
  count_mono [] h = omega arith
  count_mono (x ∷ s) h = omega (arith, count_cons p x s, count_cons q x s, one (p x) (q x) (h x), count_mono s h)
    where
      one : (b c : Bool) → (T b → T c) → cond b 1 0 ≤ cond c 1 0
      one true true f = omega arith
      one true false f = absurd (f tt)
      one false c f = omega arith

  -- where more pass p, a place makes it so
  pub count_more : (s : List Float) → count_by q s < count_by p s → (j : ℕ) × (j < length s) × T (p (get_or s j nan)) × T (not (q (get_or s j nan)))
  count_more [] h = absurd (not-suc-le-zero h)
  count_more (x ∷ s) h = go (p x) (q x) refl refl (count_more s) (omega (arith, count_cons p x s, count_cons q x s, h))
    where
      later : (j : ℕ) × (j < length s) × T (p (get_or s j nan)) × T (not (q (get_or s j nan))) → (j : ℕ) × (j < length (x ∷ s)) × T (p (get_or (x ∷ s) j nan)) × T (not (q (get_or (x ∷ s) j nan)))
      later f = (suc f.0, omega (arith, f.1), f.2, f.3)

      go : (b c : Bool) → p x ≡ b → q x ≡ c → (count_by q s < count_by p s → (j : ℕ) × (j < length s) × T (p (get_or s j nan)) × T (not (q (get_or s j nan))))
          → cond c 1 0 + count_by q s < cond b 1 0 + count_by p s
          → (j : ℕ) × (j < length (x ∷ s)) × T (p (get_or (x ∷ s) j nan)) × T (not (q (get_or (x ∷ s) j nan)))
      go true false e f again k = (0, omega arith, subst T (sym e) tt, subst (λ (c : Bool). T (not c)) (sym f) tt)
      go true true e f again k = later (again (omega arith))
      go false true e f again k = later (again (omega arith))
      go false false e f again k = later (again (omega arith))

pub count_same : (p q : Float → Bool) (s : List Float) → ((x : Float) → p x ≡ q x) → count_by p s ≡ count_by q s
count_same p q s h = le_antisymm (count_mono p q s (λ x t. subst T (h x) t)) (count_mono q p s (λ x t. subst T (sym (h x)) t))
