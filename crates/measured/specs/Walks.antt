-- A walk over the pantries that is stopped once and taken up again. Definitions only.
use Rattle.std.specs.Prelude.{Option, Some, None, ℕ, ◌/◌, List, cond, leb, ltb, length, get_or, set, Float}
use Rattle.real.specs.Reals.{zero64, from_count}
use Rattle.neighbours.specs.Walk.{Walk, unmet, walk_on, found_by, squares_from}

-- the own pantry by its number, nobody from n on
unfoldable pub own_by : ℕ → ℕ → Option ℕ
own_by i n = cond (ltb i n) (Some i) None

-- what is seen of its end: the bandwidth for a count k, the greatest sum, how many were met, and the sum in place `at`, 0 where there is none
unfoldable pub end_of : Walk → ℕ → ℕ → List Float → List Float
end_of w k at l = set (set (set (set l 1 (found_by k w)) 2 w.greatest) 3 (from_count (length w.sums))) 4 (get_or w.sums at zero64)

-- the walk from (east, north) over the first m of n pantries, the bandwidth there, and then the others
unfoldable pub walks_of : List Float → ℕ → Float → Float → Option ℕ → ℕ → ℕ → ℕ → List Float → List Float
walks_of coords n east north own m k at l =
    let s = squares_from coords east north in
    let v = walk_on own s 0 m unmet in
    end_of (walk_on own s m n v) k at (set l 0 (found_by k v))

-- the answer, 1, and what is seen; 0 and nothing where there are more than 512 pantries, or fewer than m
unfoldable pub asked_of : List Float → Float → Float → ℕ → ℕ → ℕ → ℕ → List Float → ℕ × List Float
asked_of coords east north i m k at l =
    let n = length coords / 2 in
    cond (leb n 512) (cond (leb m n) (1, walks_of coords n east north (own_by i n) m k at l) (0, l)) (0, l)
