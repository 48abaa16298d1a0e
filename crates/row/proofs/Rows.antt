-- Where the rows of an output stand, and that the output with a row put in is as long as before.
use mathlib.Core.Path.{◌≡◌, sym}
use mathlib.Core.List.{List}
use Prim.Native.Nat.{ℕ, ◌+◌, ◌*◌, ◌≤◌, ◌<◌}
use native.Mathlib.Nat.{le_trans, le_of_eq, suc-mul, mul-le-mul_right}
use native.Mathlib.Omega.{arith}
use lib.ListN.{length, length-append, length-drop}
use lib.Seq.{length-take-le}
use lib.Ieee.{Float}
use Rattle.evaluate.specs.declared.Values.{Values}
use Rattle.row.specs.Row.{row_of, put_row}

-- row i of n rows of k lies within them
pub row_within : (i n k : ℕ) → i < n → i * k + k ≤ n * k
row_within i n k h = le_trans (le_of_eq (sym (suc-mul i k))) (mul-le-mul_right k h)

-- a row of m coefficients is m + 3 long
pub row_long : (beta : List Float) (m : ℕ) (v : Values) → m ≤ length beta → length (row_of beta m v) ≡ m + 3
unfolding row_of
row_long beta m v h = rw (length-append, length-take-le m beta h) (omega arith)

pub put_long : (l : List Float) (n m i : ℕ) (beta : List Float) (v : Values) → n * (m + 3) ≤ length l → i < n → m ≤ 8 → length beta ≡ 8
    → length (put_row l m i beta v) ≡ length l
unfolding put_row
put_long l n m i beta v h lt few eight =
    let w : i * (m + 3) + (m + 3) ≤ n * (m + 3) = row_within i n (m + 3) lt in
    let r : length (row_of beta m v) ≡ m + 3 = row_long beta m v (omega arith) in
    rw (length-append, length-append, length-drop, length-take-le (i * (m + 3)) l (omega arith), r) (omega arith)
