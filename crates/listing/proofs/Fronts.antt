-- The first m of a list: its parts, its numbers, and whether it is shorter.
use mathlib.Core.Path.{◌≡◌, refl, sym, ap, ◌∙◌}
use mathlib.Core.Bool.{Bool, true, false}
use mathlib.Core.List.{List, [], ◌∷◌}
use Prim.Native.Nat.{ℕ, zero, suc, ◌+◌, ◌-◌, ◌≤◌}
use native.Mathlib.Nat.{sub-zero, suc-sub-suc}
use native.Mathlib.Omega.{arith}
use borrow.Author.Tests.{ltb-true, ltb-false, lt-ltb, le-ltb}
use lib.Dec.{ltb}
use lib.ListN.{length, take, drop, length-take}
use lib.Seq.{take-nil, take-take}
use Rattle.wire.specs.Wire.{number_of, load_of}

pub drop_take : {A : Type 0} (k m : ℕ) (l : List A) → k ≤ m → drop k (take m l) ≡ take (m - k) (drop k l)
drop_take zero m l h = rw sub-zero
drop_take (suc k) zero l h = absurd (omega arith)
drop_take (suc k) (suc m) [] h = sym (take-nil (suc m - suc k))
drop_take (suc k) (suc m) (a ∷ l) h = rw suc-sub-suc (drop_take k m l (omega arith))

-- a part of it
pub part_front : {A : Type 0} (a k m : ℕ) (l : List A) → k + a ≤ m → take a (drop k (take m l)) ≡ take a (drop k l)
part_front a k m l h = ap (take a) (drop_take k m l (omega arith)) ∙ take-take a (m - k) (drop k l) (omega arith)

pub load_front : (l : List ℕ) (k m : ℕ) → k + 8 ≤ m → load_of (take m l) k ≡ load_of l k
unfolding load_of
load_front l k m h = ap number_of (part_front 8 k m l h)

-- whether it is shorter than e
pub short_front : (l : List ℕ) (e m : ℕ) → e ≤ m → ltb (length (take m l)) e ≡ ltb (length l) e
short_front l e m h = go (ltb (length l) e) refl
  where
    go : (b : Bool) → ltb (length l) e ≡ b → ltb (length (take m l)) e ≡ b
    go true f = lt-ltb (length (take m l)) e (omega (arith, length-take m l, ltb-true (length l) e f))
    go false f = le-ltb (length (take m l)) e (omega (arith, length-take m l, ltb-false (length l) e f))
