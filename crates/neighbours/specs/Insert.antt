-- Insertion into a list in ascending order. Definitions, and an example.
use Rattle.std.specs.Prelude.{◌≡◌, cond, List, [], ◌∷◌, ◌++◌, ℕ, zero, suc, pos, length, take, drop, get_or, Float}
use Rattle.std.proofs.Math.Path.{refl}
use Rattle.std.specs.Float.{nan, binary64}
use Rattle.std.specs.Float.Ieee.{le, of_int}

-- how many of the first n numbers stand before x: those up to the last one that is at most x
unfoldable pub rank_of : Float → List Float → ℕ → ℕ
unfolding le
rank_of x l zero = zero
rank_of x l (suc n) = cond (le (get_or l n nan) x) (suc n) (rank_of x l n)

-- l with x behind its last number that is at most x
unfoldable pub insert : Float → List Float → List Float
unfolding rank_of
insert x l = let p = rank_of x l (length l) in take p l ++ x ∷ drop p l

-- ---- an example

module _ where
  abbrev whole : ℕ → Float
  whole n = of_int binary64 (pos n)

  middle : insert (whole 2) (whole 1 ∷ whole 2 ∷ whole 3 ∷ []) ≡ whole 1 ∷ whole 2 ∷ whole 2 ∷ whole 3 ∷ []
  unfolding insert of_int
  middle = refl
