-- 000's `invert_matrix` on rows of floats: its elimination, step by step. Definitions, and examples at the end.
-- The augmented matrix `aug` has the columns 0 to m - 1 in use and the rows 0 to n - 1; for `invert_matrix` m is 2 * n.
use Rattle.std.specs.Prelude.{ℕ, ◌+◌, ◌≡◌, true, cond, Option, None, Some, is_some, Result, Ok, Err, [], ◌∷◌, get_or, set, eqb, Float}
use Rattle.std.specs.Result.{result_ok}
use Rattle.std.proofs.Math.Path.{refl}
use Rattle.std.specs.Float.{nan, binary64}
use Rattle.std.specs.Float.Ieee.{mul, sub, div, neg, lt, eq, of_bits}
use Rattle.real.specs.Fold.{range}
use Rattle.real.specs.Reals.{zero64, one64, two64, magnitude}
use Rattle.real.specs.Matrix.{Row, Matrix}
use Rattle.gauss.specs.declared.Pivot.{Pivot}

-- `aug[[k, j]]`
unfoldable pub cell : Matrix → ℕ → ℕ → Float
cell a k j = get_or (get_or a k []) j nan

-- `if v > max_val { max_val = v; max_row = k; }`, with `v = aug[[k, i]].abs()`: the first row stays on a tie, and a NaN is never above
unfoldable pub pivot_step : Matrix → ℕ → ℕ → Pivot → Pivot
pivot_step a i k p = cond (lt p.val (magnitude (cell a k i))) (record { row = k; val = magnitude (cell a k i) }) p

-- `max_row` and `max_val` after `for k in (i + 1)..n`, from row i: a NaN on the diagonal stays
unfoldable pub pivot_of : Matrix → ℕ → ℕ → Pivot
pivot_of a i n = range (pivot_step a i) (i + 1) n (record { row = i; val = magnitude (cell a i i) })

-- `aug[[i, j]]` and `aug[[max_row, j]]` exchanged for every j; with k = i nothing changes, which `if max_row != i` leaves out
abbrev pub swap_rows : Matrix → ℕ → ℕ → Matrix
swap_rows a i k = set (set a i (get_or a k [])) k (get_or a i [])

-- `aug[[i, j]] /= pivot`
unfoldable pub div_step : Float → ℕ → Row → Row
div_step v j row = set row j (div binary64 (get_or row j nan) v)

-- the same `for j in 0..(2 * n)`
unfoldable pub div_row : Float → ℕ → Row → Row
div_row v m row = range (div_step v) 0 m row

-- `aug[[k, j]] -= factor * aug[[i, j]]`, `by` being row i
unfoldable pub less_step : Float → Row → ℕ → Row → Row
less_step v by j row = set row j (sub binary64 (get_or row j nan) (mul binary64 v (get_or by j nan)))

-- the same `for j in 0..(2 * n)`
unfoldable pub less_row : Float → Row → ℕ → Row → Row
less_row v by m row = range (less_step v by) 0 m row

-- `if k != i { let factor = aug[[k, i]]; if factor != 0.0 { .. } }`: row i, and a row whose factor is zero, stay
unfoldable pub clear_row : ℕ → ℕ → Row → ℕ → Row → Row
clear_row k i by m row = cond (eqb k i) row (cond (eq (get_or row i nan) zero64) row (less_row (get_or row i nan) by m row))

-- that for row k of the matrix
unfoldable pub clear_step : ℕ → ℕ → ℕ → Matrix → Matrix
clear_step i m k a = set a k (clear_row k i (get_or a i []) m (get_or a k []))

-- `for k in 0..n`: column i cleared above and below the pivot
unfoldable pub cleared : ℕ → ℕ → ℕ → Matrix → Matrix
cleared i n m a = range (clear_step i m) 0 n a

-- the 1e-12 of `if max_val < 1e-12`
abbrev pub least_pivot : Float
least_pivot = of_bits binary64 0x3D71_9799_812D_EA11

-- the swap, `let pivot = aug[[i, i]]` and the division of row i by it, and the clearing
unfoldable pub reduced : Matrix → ℕ → ℕ → ℕ → ℕ → Matrix
reduced a i n m p =
    let s = swap_rows a i p in
    let row = get_or s i [] in
    cleared i n m (set s i (div_row (get_or row i nan) m row))

-- one turn of `for i in 0..n`: `return Err(..)` where `max_val < 1e-12`, with `aug` as it is then
unfoldable pub gauss_step : Matrix → ℕ → ℕ → ℕ → Result Matrix Matrix
gauss_step a i n m = cond (lt (pivot_of a i n).val least_pivot) (Err a) (Ok (reduced a i n m (pivot_of a i n).row))

-- the same unless a turn before has returned
unfoldable pub try_step : ℕ → ℕ → ℕ → Result Matrix Matrix → Result Matrix Matrix
try_step n m i (Err a) = Err a
try_step n m i (Ok a) = gauss_step a i n m

-- `for i in 0..n`, whole: `aug` at the end, or as far as it came where the matrix is singular
unfoldable pub elimination : Matrix → ℕ → ℕ → Result Matrix Matrix
elimination a n m = range (try_step n m) 0 n (Ok a)

-- `aug` at the end, none where the matrix is singular
unfoldable pub eliminated : Matrix → ℕ → ℕ → Option Matrix
eliminated a n m = result_ok (elimination a n m)

-- ---- examples

module _ where
  -- 1 and -1: the first row on a tie; a NaN on the diagonal stays, and one below it is skipped
  pivot_examples :
      ((pivot_of ((one64 ∷ []) ∷ ((neg one64 ∷ []) ∷ [])) 0 2).row ≡ 0)
      × ((pivot_of ((nan ∷ []) ∷ ((one64 ∷ []) ∷ [])) 0 2).row ≡ 0)
      × ((pivot_of ((one64 ∷ []) ∷ ((nan ∷ []) ∷ ((two64 ∷ []) ∷ []))) 0 3).row ≡ 2)
  unfolding pivot_of pivot_step range magnitude cell lt neg of_bits
  pivot_examples = (refl, refl, refl)

  -- 1e-12 itself is no singular pivot, and the number below it is
  singular_examples :
      (is_some (eliminated ((least_pivot ∷ (one64 ∷ [])) ∷ []) 1 2) ≡ true)
      × (eliminated ((of_bits binary64 0x3D71_9799_812D_EA10 ∷ (one64 ∷ [])) ∷ []) 1 2 ≡ None)
  unfolding eliminated elimination try_step gauss_step pivot_of range magnitude cell lt of_bits
  singular_examples = (refl, refl)

  -- a singular matrix as far as it was eliminated: its first column is cleared, and the second has no pivot
  left_singular :
      let row = one64 ∷ (one64 ∷ []) in
      elimination (row ∷ (row ∷ [])) 2 2 ≡ Err (row ∷ ((zero64 ∷ (zero64 ∷ [])) ∷ []))
  unfolding elimination try_step gauss_step reduced pivot_of pivot_step div_row div_step cleared clear_step clear_row less_row less_step range magnitude cell lt eq div mul sub of_bits
  left_singular = refl

  -- the inverse of the matrix that exchanges two rows
  exchanged :
      let top = zero64 ∷ (one64 ∷ (one64 ∷ (zero64 ∷ []))) in
      let low = one64 ∷ (zero64 ∷ (zero64 ∷ (one64 ∷ []))) in
      eliminated (top ∷ (low ∷ [])) 2 4 ≡ Some (low ∷ (top ∷ []))
  unfolding eliminated elimination try_step gauss_step reduced pivot_of pivot_step div_row div_step cleared clear_step clear_row range magnitude cell lt eq div of_bits
  exchanged = refl
