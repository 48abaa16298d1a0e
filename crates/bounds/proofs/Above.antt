-- The greatest pair distance is no NaN and not below 0.
use mathlib.Core.Path.{◌≡◌, refl, subst⁻¹}
use mathlib.Core.Bool.{Bool, true, false, cond}
use mathlib.Core.List.{List}
use Prim.Native.Nat.{ℕ, ◌+◌, ◌≤◌}
use native.Mathlib.Omega.{arith}
use lib.Dec.{T}
use lib.Ieee.{Float, lt, le, of_bits}
use Rattle.real.specs.Reals.{greater, zero64}
use Rattle.real.proofs.Fold.{kept}
use Rattle.real.proofs.SignedOrder.{le_tr, lt→le}
use Rattle.bounds.specs.Bounds.{farther_pair, farther_from, greatest_distance}

-- numbers from 0 up
abbrev pub Above : Float → Type 0
Above x = T (le zero64 x)

pub greater_above : (a b : Float) → Above a → Above (greater a b)
unfolding greater
greater_above a b h = go (lt a b) refl
  where
    go : (t : Bool) → lt a b ≡ t → Above (cond t b a)
    go true e = le_tr zero64 a b h (lt→le a b (subst⁻¹ T e tt))
    go false e = h

zero_above : Above zero64
unfolding le of_bits
zero_above = tt

from_above : (coords : List Float) (n i : ℕ) (most : Float) → i + 1 ≤ n → Above most → Above (farther_from coords n i most)
unfolding farther_from farther_pair
from_above coords n i most l h = kept (farther_pair coords i) (i + 1) n Above (λ j s k a. greater_above s _ a) most l h

pub greatest_above : (coords : List Float) (n : ℕ) → Above (greatest_distance coords n)
unfolding greatest_distance
greatest_above coords n = kept (farther_from coords n) 0 n Above (λ i s l a. from_above coords n i s (omega arith) a) zero64 (omega arith) zero_above
