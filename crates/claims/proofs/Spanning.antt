-- Every accepted job that searches gives the golden section search what it asks: the range from lo to hi is a `Span`.
use mathlib.Core.Path.{◌≡◌}
use mathlib.Core.Bool.{not}
use mathlib.Core.List.{List}
use Prim.Native.Nat.{ℕ, ◌+◌, ◌*◌, ◌≤◌}
use native.Mathlib.Omega.{arith}
use lib.Dec.{T}
use lib.ListN.{length, get_or}
use lib.Ieee.{Float, nan, inf, fin, binary64, lt, fits, is_nan, of_bits}
use lib.Ieee.Fits.{cond-fits, nan-fits}
use Rattle.std.specs.Prelude.{Ok}
use Rattle.claims.specs.Words.{greater, zero64, root, squares_of, distance_of, Span, SearchInside, GwrOptions, Data, setup_of, Sought, farther_pair, farther_from, greatest_distance, accept_of}
use Rattle.claims.proofs.Laws.{kept, nonneg, root_of_nan, squares_nonneg, root_fits, squares_fits, distance_is, search_span, searched, sought_ranged}

-- ---- the greatest pair distance is a number of binary64

abbrev Held : Float → Type 0
Held x = T (fits binary64 x)

root_held : (x : Float) → Held x → (T (not (is_nan x)) → T (nonneg x)) → Held (root x)
unfolding is_nan
root_held nan f p = rw root_of_nan (nan-fits binary64)
root_held (inf s) f p = root_fits (inf s) f (p tt)
root_held (fin s m e) f p = root_fits (fin s m e) f (p tt)

distance_held : (ax ay bx by : Float) → Held (distance_of ax ay bx by)
distance_held ax ay bx by = rw distance_is (root_held (squares_of ax ay bx by) (squares_fits ax ay bx by) (squares_nonneg ax ay bx by))

pair_held : (coords : List Float) (i j : ℕ) (most : Float) → Held most → Held (farther_pair coords i j most)
unfolding farther_pair greater
pair_held coords i j most h =
    let d = distance_of (get_or coords (2 * i) nan) (get_or coords (2 * i + 1) nan) (get_or coords (2 * j) nan) (get_or coords (2 * j + 1) nan) in
    cond-fits binary64 (lt most d) d most (distance_held _ _ _ _) h

from_held : (coords : List Float) (n i : ℕ) (most : Float) → i + 1 ≤ n → Held most → Held (farther_from coords n i most)
unfolding farther_from
from_held coords n i most l h = kept (farther_pair coords i) (i + 1) n Held (λ j s k a. pair_held coords i j s a) most l h

greatest_held : (coords : List Float) (n : ℕ) → Held (greatest_distance coords n)
unfolding greatest_distance fits of_bits
greatest_held coords n = kept (farther_from coords n) 0 n Held (λ i s l a. from_held coords n i s (omega arith) a) zero64 (omega arith) tt

-- ---- the whole
module _ (d : Data) (p : ℕ) (o : GwrOptions) (out : List Float) (lo hi : Float) (sought : accept_of d p o (length out) ≡ Ok (Sought lo hi)) where
  pub job_span : Span lo hi
  job_span =
      let r = sought_ranged d p o (length out) (greatest_held d.coords (setup_of d p o).n) sought in
      search_span lo hi r.low_held r.high_held r.low_finite r.high_finite r.from_zero r.order

  pub job_searched : (s t : Float) (l : List Float) → SearchInside lo hi s t l
  job_searched = searched job_span
