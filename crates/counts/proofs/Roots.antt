-- `ceil_root n` is the least whole number whose square is at least n: the whole root of n or the next. Assumes nothing.
use mathlib.Core.Path.{◌≡◌, refl, sym}
use mathlib.Core.Bool.{Bool, true, false, cond}
use mathlib.Core.Logic.{inl, inr}
use Prim.Native.Nat.{ℕ, zero, suc, ◌+◌, ◌*◌, ◌≤◌, ◌<◌}
use native.Mathlib.Nat.{mul-le-mul, le-mul_of_pos_right, not-suc-le-zero, eq-or-lt_of_le, lt_irrefl, lt_of_lt_of_le, lt_of_le_of_lt, le_of_lt}
use Rattle.std.proofs.lemmas.Nat.{mul-lt}
use native.Mathlib.Numerals.{add-one}
use native.Mathlib.Omega.{arith, min_cases}
use borrow.Author.Tests.{ltb-true, ltb-false}
use lib.Dec.{ltb}
use Rattle.counts.specs.Count.{root_from, ceil_root, LeastRoot}

-- the square of no number below r reaches n
pub record Raising (n r : ℕ) : Type 0 where
  pub below : (s : ℕ) → s < r → s * s < n
  pub high : r ≤ n

pub square_above : (r : ℕ) → r ≤ r * r
square_above zero = omega arith
square_above (suc r) = le-mul_of_pos_right (suc r) (omega arith)

pub raising : (n : ℕ) → Raising n 0
raising n = record { below = λ s h. absurd (not-suc-le-zero h); high = omega arith }

pub higher : {n r : ℕ} → Raising n r → r * r < n → Raising n (r + 1)
higher {n} {r} p h = record { below = go; high = omega (arith, square_above r) }
  where
    the_le : (s : ℕ) → s < r + 1 → s ≤ r
    the_le s l = omega arith

    go : (s : ℕ) → s < r + 1 → s * s < n
    go s l =
        elim (eq-or-lt_of_le (the_le s l)) [
          | inl e ↦ rw e h
          | inr g ↦ p.below s g
        ]

pub root_from_least : (n m r : ℕ) → Raising n r → n ≤ r + m → LeastRoot n (root_from n m r)
unfolding root_from
root_from_least n zero r p h = record { reaches = omega (arith, square_above r); least = p.below }
root_from_least n (suc m) r p h = go (ltb (r * r) n) refl (λ q. root_from_least n m (suc r) q (omega arith))
  where
    go : (b : Bool) → ltb (r * r) n ≡ b → (Raising n (suc r) → LeastRoot n (root_from n m (suc r))) → LeastRoot n (cond b (root_from n m (suc r)) r)
    go true e again = again (rw add-one at (higher p (ltb-true (r * r) n e)))
    go false e again = record { reaches = ltb-false (r * r) n e; least = p.below }

pub ceil_root_least : (n : ℕ) → LeastRoot n (ceil_root n)
unfolding ceil_root
ceil_root_least n = root_from_least n n 0 (raising n) (omega arith)

-- there is one only
pub least_root_only : (n a b : ℕ) → LeastRoot n a → LeastRoot n b → a ≡ b
least_root_only n a b p q = min_cases a b (a ≡ b) (λ h _. within a b p q h) (λ h _. sym (within b a q p h))
  where
    within : (a b : ℕ) → LeastRoot n a → LeastRoot n b → a ≤ b → a ≡ b
    within a b p q h =
        elim (eq-or-lt_of_le h) [
          | inl e ↦ e
          | inr g ↦ absurd (lt_irrefl (a * a) (lt_of_lt_of_le (q.least a g) p.reaches))
        ]

-- it is r, the largest whole number whose square is at most n, where that square is n
pub root_reached : (n r : ℕ) → r * r ≤ n → n ≤ r * r → r ≡ ceil_root n
root_reached n r h k = least_root_only n r (ceil_root n) record { reaches = k; least = λ s l. lt_of_lt_of_le (mul-lt s s r r l l) h } (ceil_root_least n)

-- and else the next
pub root_passed : (n r : ℕ) → r * r < n → n < (r + 1) * (r + 1) → r + 1 ≡ ceil_root n
root_passed n r h k = least_root_only n (r + 1) (ceil_root n) record { reaches = le_of_lt k; least = λ s l. lt_of_le_of_lt (mul-le-mul (within s l) (within s l)) h } (ceil_root_least n)
  where
    within : (s : ℕ) → s < r + 1 → s ≤ r
    within s l = omega arith
