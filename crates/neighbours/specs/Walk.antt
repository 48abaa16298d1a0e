-- A walk over pantries: the sums of squares met, in order, and the greatest of them; what it gives wherever it is stopped. Definitions, and examples.
use Rattle.std.specs.Prelude.{◌≡◌, Option, Some, None, Bool, false, cond, List, [], ◌∷◌, ◌++◌, ℕ, ◌+◌, ◌*◌, eqb, pos, take, get_or, Float}
use Rattle.std.proofs.Math.Path.{refl}
use Rattle.std.specs.Float.{nan, binary64}
use Rattle.std.specs.Float.Ieee.{lt, of_bits, of_int}
use Rattle.real.specs.Fold.{range}
use Rattle.real.specs.Reals.{zero64, greater, eps64}
use Rattle.root.specs.Root.{root}
use Rattle.kernel.specs.Weight.{squares_of, distance_of}
use Rattle.selection.specs.Kth.{kth_smallest}

-- how far a walk has come: the sums of squares of the pantries met, in order, and the greatest of them
pub record Walk : Type 0 where
  pub sums : List Float
  pub greatest : Float

-- nothing met
abbrev pub unmet : Walk
unmet = record { sums = []; greatest = zero64 }

-- one pantry met, whose sum of squares is s
unfoldable pub meet : Float → Walk → Walk
unfolding greater
meet s w = record { sums = w.sums ++ s ∷ []; greatest = greater w.greatest s }

-- whether pantry j is the walk's own, which is left out; a place that is no pantry leaves out none
unfoldable pub is_own : Option ℕ → ℕ → Bool
is_own (Some i) j = eqb i j
is_own None j = false

-- the walk with pantry j met, whose sum is s j, unless it is its own
unfoldable pub pass : Option ℕ → (ℕ → Float) → ℕ → Walk → Walk
unfolding is_own meet
pass own s j w = cond (is_own own j) w (meet (s j) w)

-- the walk taken on over the pantries a to b - 1
unfoldable pub walk_on : Option ℕ → (ℕ → Float) → ℕ → ℕ → Walk → Walk
unfolding range pass
walk_on own s a b w = range (pass own s) a b w

-- the bandwidth by a sum of squares: its root, or where it is zero the greater of the root of the greatest, g, and 2 ^ -52
unfoldable pub width_of : Float → Float → Float
unfolding lt root greater
width_of g s = cond (lt zero64 s) (root s) (greater (root g) eps64)

-- what the walk gives for a count k when stopped: the bandwidth by the k-th smallest sum, by the greatest where fewer were met
unfoldable pub found_by : ℕ → Walk → Float
unfolding width_of kth_smallest
found_by k w = width_of w.greatest (kth_smallest w.sums k w.greatest)

-- the sum of squares from the place (east, north) to pantry j, and its root, the distance
unfoldable pub squares_from : List Float → Float → Float → ℕ → Float
unfolding squares_of
squares_from coords east north j = squares_of east north (get_or coords (2 * j) nan) (get_or coords (2 * j + 1) nan)

unfoldable pub distance_from : List Float → Float → Float → ℕ → Float
unfolding distance_of
distance_from coords east north j = distance_of east north (get_or coords (2 * j) nan) (get_or coords (2 * j + 1) nan)

-- the k-th smallest distance from a place to the first n pantries, its own left out
unfoldable pub nearest_from : List Float → ℕ → Float → Float → Option ℕ → ℕ → Float
unfolding found_by walk_on squares_from
nearest_from coords n east north own k = found_by k (walk_on own (squares_from coords east north) 0 n unmet)

-- a location is a place that is a pantry: its distances, and the k-th smallest of those to the others
abbrev pub between : List Float → ℕ → ℕ → Float
between coords i = distance_from coords (get_or coords (2 * i) nan) (get_or coords (2 * i + 1) nan)

abbrev pub nearest_of : List Float → ℕ → ℕ → ℕ → Float
nearest_of coords n i k = nearest_from coords n (get_or coords (2 * i) nan) (get_or coords (2 * i + 1) nan) (Some i) k

-- ---- a walk whose sums stand at the front of a buffer

-- the walk that a buffer's first numbers and a greatest are
abbrev pub walk_in : List Float → ℕ → Float → Walk
walk_in buffer met g = record { sums = take met buffer; greatest = g }

-- ---- examples

module _ where
  abbrev whole : ℕ → Float
  whole n = of_int binary64 (pos n)

  -- pantries at (0, 0), (3, 4), (6, 8), (0, 1)
  abbrev four : List Float
  four = whole 0 ∷ whole 0 ∷ whole 3 ∷ whole 4 ∷ whole 6 ∷ whole 8 ∷ whole 0 ∷ whole 1 ∷ []

  abbrev from_first : Option ℕ → ℕ → Walk
  from_first own m = walk_on own (squares_from four (whole 0) (whole 0)) 0 m unmet

  -- the first pantry's walk, and what it gives for counts 1, 2, 3 and 9
  others : from_first (Some 0) 4 ≡ record { sums = whole 25 ∷ whole 100 ∷ whole 1 ∷ []; greatest = whole 100 }
  unfolding walk_on squares_from of_int of_bits lt
  others = refl

  in_order :
      let w = from_first (Some 0) 4 in
      (found_by 1 w ≡ whole 1) × (found_by 2 w ≡ whole 5) × (found_by 3 w ≡ whole 10) × (found_by 9 w ≡ whole 10)
  unfolding found_by walk_on squares_from of_int of_bits
  in_order = (refl, refl, refl, refl)

  -- stopped after three, after two, and after itself alone; nobody left out
  early :
      (found_by 2 (from_first (Some 0) 3) ≡ whole 10)
      × (found_by 2 (from_first (Some 0) 2) ≡ whole 5)
      × (found_by 2 (from_first (Some 0) 1) ≡ eps64)
      × (found_by 2 (from_first None 4) ≡ whole 1)
      × (found_by 1 (from_first None 4) ≡ whole 10)
  unfolding found_by walk_on squares_from of_int of_bits
  early = (refl, refl, refl, refl, refl)
