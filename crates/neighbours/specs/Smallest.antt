-- All distances in order, the k-th of them and the greatest. Definitions only.
use Rattle.std.specs.Prelude.{Option, cond, List, [], ◌∷◌, ℕ, ◌-◌, ◌≤◌, ◌<◌, min, T, length, get_or, Float}
use Rattle.std.specs.Float.{nan}
use Rattle.std.specs.Float.Ieee.{le, lt}
use Rattle.real.specs.Fold.{range}
use Rattle.real.specs.Reals.{zero64, greater, eps64}
use Rattle.neighbours.specs.Insert.{insert}
use Rattle.neighbours.specs.Walk.{is_own}

-- In all of these the distance to pantry j is d j, and the own pantry, if there is one, is left out.
-- the list with the distance to pantry j inserted
unfoldable pub insert_step : Option ℕ → (ℕ → Float) → ℕ → List Float → List Float
unfolding is_own insert
insert_step own d j l = cond (is_own own j) l (insert (d j) l)

-- all distances to the first m pantries, each inserted in turn
unfoldable pub all_distances : Option ℕ → (ℕ → Float) → ℕ → List Float
unfolding range insert_step
all_distances own d m = range (insert_step own d) 0 m []

-- the list with the distance to pantry j in front
unfoldable pub front_step : Option ℕ → (ℕ → Float) → ℕ → List Float → List Float
unfolding is_own
front_step own d j l = cond (is_own own j) l (d j ∷ l)

-- the distances to the first m pantries as they are met, the last one first
unfoldable pub met_distances : Option ℕ → (ℕ → Float) → ℕ → List Float
unfolding range front_step
met_distances own d m = range (front_step own d) 0 m []

-- no number is below an earlier one, and none is NaN
pub record Ascending (l : List Float) : Type 0 where
  pub ordered : (a b : ℕ) → a ≤ b → b < length l → T (le (get_or l a nan) (get_or l b nan))

-- the k-th number, the last one where k is larger, and 0 where there is none
abbrev pub kth_of : ℕ → List Float → Float
kth_of k l = get_or l (min k (length l) - 1) zero64

-- the greater of g and the distance to pantry j
unfoldable pub great_step : Option ℕ → (ℕ → Float) → ℕ → Float → Float
unfolding is_own greater
great_step own d j g = cond (is_own own j) g (greater g (d j))

-- the greatest distance to the first m pantries, 0 where there is none
unfoldable pub greatest_met : Option ℕ → (ℕ → Float) → ℕ → Float
unfolding range great_step
greatest_met own d m = range (great_step own d) 0 m zero64

-- the k-th smallest distance; if that is zero, or no other exists, the greatest of the distances and 2 ^ -52
unfoldable pub kth_nearest : Option ℕ → (ℕ → Float) → ℕ → ℕ → Float
unfolding all_distances greatest_met lt greater
kth_nearest own d n k = let b = kth_of k (all_distances own d n) in cond (lt zero64 b) b (greater (greatest_met own d n) eps64)
