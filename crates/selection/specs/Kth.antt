-- How many numbers of a list pass a test, and which number is the m-th smallest. Definitions, and examples.
use Rattle.std.specs.Prelude.{◌≡◌, Bool, cond, ◌&&◌, List, [], ◌∷◌, ℕ, leb, ltb, pos, Float}
use Rattle.std.specs.List.{count_by, fold}
use Rattle.std.proofs.Math.Path.{refl}
use Rattle.std.specs.Float.{binary64}
use Rattle.std.specs.Float.Ieee.{le, lt, of_int}

-- how many numbers are at most v, and how many are below it
unfoldable pub at_most : List Float → Float → ℕ
unfolding le
at_most s v = count_by (λ x. le x v) s

unfoldable pub fewer : List Float → Float → ℕ
unfolding lt
fewer s v = count_by (λ x. lt x v) s

-- v is the m-th smallest of the numbers: m at least are at most v, and fewer than m are below it
unfoldable pub is_kth : List Float → ℕ → Float → Bool
unfolding at_most fewer
is_kth s m v = leb m (at_most s v) && ltb (fewer s v) m

-- number x where it is the m-th smallest, else b
unfoldable pub kth_step : List Float → ℕ → Float → Float → Float
unfolding is_kth
kth_step s m b x = cond (is_kth s m x) x b

-- the m-th smallest of the numbers, g where there are fewer than m; equal ones are one, so of these the last
unfoldable pub kth_smallest : List Float → ℕ → Float → Float
unfolding kth_step
kth_smallest s m g = fold (kth_step s m) g s

-- ---- examples: of 3, 1, 3, 2

module _ where
  abbrev whole : ℕ → Float
  whole n = of_int binary64 (pos n)

  abbrev four : List Float
  four = whole 3 ∷ whole 1 ∷ whole 3 ∷ whole 2 ∷ []

  in_order :
      (kth_smallest four 1 (whole 9) ≡ whole 1)
      × (kth_smallest four 2 (whole 9) ≡ whole 2)
      × (kth_smallest four 3 (whole 9) ≡ whole 3)
      × (kth_smallest four 4 (whole 9) ≡ whole 3)
      × (kth_smallest four 5 (whole 9) ≡ whole 9)
  unfolding kth_smallest of_int
  in_order = (refl, refl, refl, refl, refl)
