-- An output row, and the output with a row replaced. Definitions only.
use Rattle.std.specs.Prelude.{ℕ, ◌+◌, ◌*◌, List, [], ◌∷◌, ◌++◌, take, drop, Float}
use Rattle.evaluate.specs.declared.Values.{Values}

-- an output row: the first m coefficients, prediction, residual and local R²
unfoldable pub row_of : List Float → ℕ → Values → List Float
row_of beta m v = take m beta ++ (v.predicted ∷ v.residual ∷ v.local_r2 ∷ [])

-- the output l with row i, which starts at i × (m + 3), replaced; nothing else moves
unfoldable pub put_row : List Float → ℕ → ℕ → List Float → Values → List Float
put_row l m i beta v = let at = i * (m + 3) in take at l ++ (row_of beta m v ++ drop (at + (m + 3)) l)
