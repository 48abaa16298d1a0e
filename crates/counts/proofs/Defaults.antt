-- What an unsearched count becomes, in 02's words, and that it stands for itself once it is named. Assumes nothing.
use mathlib.Core.Path.{◌≡◌, sym, ap, ◌∙◌}
use Prim.Native.Nat.{ℕ, ◌+◌, ◌-◌, ◌≤◌, min, max}
use native.Mathlib.Omega.{arith}
use Rattle.counts.specs.Count.{ceil_root, LeastRoot, resolve_count}
use Rattle.counts.proofs.Roots.{ceil_root_least, least_root_only}
use Rattle.counts.proofs.Bounds.{chosen_given, resolve_some}

-- 0 becomes the larger of p + 3 and the least whole number whose square reaches n, then is capped and raised
pub default_count : (n p r : ℕ) → LeastRoot n r → resolve_count 0 n p ≡ max (min (max (p + 3) r) (n - 1)) 1
unfolding resolve_count
default_count n p r h = ap (λ (c : ℕ). max (min (max (p + 3) c) (n - 1)) 1) (least_root_only n (ceil_root n) r (ceil_root_least n) h)

-- any other is capped and raised alone, whatever p is, as in 000
pub given_count : (k n p : ℕ) → 1 ≤ k → resolve_count k n p ≡ max (min k (n - 1)) 1
unfolding resolve_count
given_count k n p h = ap (λ (c : ℕ). max (min c (n - 1)) 1) (sym (chosen_given k n p (λ e. absurd (omega arith))))

-- naming what a count becomes changes nothing
pub named_count : (k n p : ℕ) → resolve_count (resolve_count k n p) n p ≡ resolve_count k n p
unfolding resolve_count
named_count k n p = given_count (resolve_count k n p) n p (resolve_some k n p) ∙ omega arith
