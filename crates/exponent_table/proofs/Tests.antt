-- Many computed tests at once, and lists of tests for each of many numbers.
use mathlib.Core.Path.{subst}
use mathlib.Core.Logic.{inl, inr}
use Prim.Native.Nat.{ℕ, zero, suc, ◌+◌, ◌≤◌, ◌<◌}
use native.Mathlib.Nat.{lt_irrefl, eq-or-lt_of_le}
use native.Mathlib.Omega.{arith}
use mathlib.Core.List.{List, [], ◌∷◌}
use mathlib.Core.Bool.{Bool, true, ◌&&◌}
use lib.Dec.{T}
use lib.Ieee.Fits.{and_l, and_r}

abbrev pub allb : List Bool → Bool
allb [] = true
allb (c ∷ cs) = c && allb cs

abbrev pub All : List Bool → Type 0
All [] = Unit {0}
All (c ∷ cs) = T c × All cs

pub all→ : (cs : List Bool) → T (allb cs) → All cs
all→ [] t = tt
all→ (c ∷ cs) t = (and_l c (allb cs) t, all→ cs (and_r c (allb cs) t))

-- the tests at a, a + 1, .., a + n - 1
abbrev pub sweep : (ℕ → List Bool) → ℕ → ℕ → Bool
sweep tests zero a = true
sweep tests (suc n) a = allb (tests a) && sweep tests n (suc a)

pub sweep_sound : (tests : ℕ → List Bool) (n a k : ℕ) → T (sweep tests n a) → a ≤ k → k < a + n → All (tests k)
sweep_sound tests zero a k t l u = absurd (lt_irrefl 0 (omega arith))
sweep_sound tests (suc n) a k t l u =
    elim (eq-or-lt_of_le l) [
      | inl e ↦ subst (λ (i : ℕ). All (tests i)) e (all→ (tests a) (and_l (allb (tests a)) (sweep tests n (suc a)) t))
      | inr g ↦ sweep_sound tests n (suc a) k (and_r (allb (tests a)) (sweep tests n (suc a)) t) g (omega arith)
    ]
