-- What an unsearched count 0 becomes for every n from 1 to 512 and every p from 0 to 7. Definitions only; proofs/DefaultCounts proves it, by computing, and the Rust holds its own line against the same table (rust/oracle/src/lib.rs).
use Rattle.std.specs.Prelude.{ℕ, zero, suc, ◌-◌, ◌≡◌, List, [], ◌∷◌, ◌++◌, map, replicate}
use Rattle.counts.specs.Count.{resolve_count}

-- a row for p = 0, for p = 1 and so on: the greatest n whose count is 1, the greatest whose count is 2 and so on
abbrev pub last_of_each : List (List ℕ)
last_of_each =
    (2 ∷ 3 ∷ 9 ∷ 16 ∷ 25 ∷ 36 ∷ 49 ∷ 64 ∷ 81 ∷ 100 ∷ 121 ∷ 144 ∷ 169 ∷ 196 ∷ 225 ∷ 256 ∷ 289 ∷ 324 ∷ 361 ∷ 400 ∷ 441 ∷ 484 ∷ 512 ∷ [])
    ∷ (2 ∷ 3 ∷ 4 ∷ 16 ∷ 25 ∷ 36 ∷ 49 ∷ 64 ∷ 81 ∷ 100 ∷ 121 ∷ 144 ∷ 169 ∷ 196 ∷ 225 ∷ 256 ∷ 289 ∷ 324 ∷ 361 ∷ 400 ∷ 441 ∷ 484 ∷ 512 ∷ [])
    ∷ (2 ∷ 3 ∷ 4 ∷ 5 ∷ 25 ∷ 36 ∷ 49 ∷ 64 ∷ 81 ∷ 100 ∷ 121 ∷ 144 ∷ 169 ∷ 196 ∷ 225 ∷ 256 ∷ 289 ∷ 324 ∷ 361 ∷ 400 ∷ 441 ∷ 484 ∷ 512 ∷ [])
    ∷ (2 ∷ 3 ∷ 4 ∷ 5 ∷ 6 ∷ 36 ∷ 49 ∷ 64 ∷ 81 ∷ 100 ∷ 121 ∷ 144 ∷ 169 ∷ 196 ∷ 225 ∷ 256 ∷ 289 ∷ 324 ∷ 361 ∷ 400 ∷ 441 ∷ 484 ∷ 512 ∷ [])
    ∷ (2 ∷ 3 ∷ 4 ∷ 5 ∷ 6 ∷ 7 ∷ 49 ∷ 64 ∷ 81 ∷ 100 ∷ 121 ∷ 144 ∷ 169 ∷ 196 ∷ 225 ∷ 256 ∷ 289 ∷ 324 ∷ 361 ∷ 400 ∷ 441 ∷ 484 ∷ 512 ∷ [])
    ∷ (2 ∷ 3 ∷ 4 ∷ 5 ∷ 6 ∷ 7 ∷ 8 ∷ 64 ∷ 81 ∷ 100 ∷ 121 ∷ 144 ∷ 169 ∷ 196 ∷ 225 ∷ 256 ∷ 289 ∷ 324 ∷ 361 ∷ 400 ∷ 441 ∷ 484 ∷ 512 ∷ [])
    ∷ (2 ∷ 3 ∷ 4 ∷ 5 ∷ 6 ∷ 7 ∷ 8 ∷ 9 ∷ 81 ∷ 100 ∷ 121 ∷ 144 ∷ 169 ∷ 196 ∷ 225 ∷ 256 ∷ 289 ∷ 324 ∷ 361 ∷ 400 ∷ 441 ∷ 484 ∷ 512 ∷ [])
    ∷ (2 ∷ 3 ∷ 4 ∷ 5 ∷ 6 ∷ 7 ∷ 8 ∷ 9 ∷ 10 ∷ 100 ∷ 121 ∷ 144 ∷ 169 ∷ 196 ∷ 225 ∷ 256 ∷ 289 ∷ 324 ∷ 361 ∷ 400 ∷ 441 ∷ 484 ∷ 512 ∷ [])
    ∷ []

-- the counts that a row says: k for the n above `before` up to the first, k + 1 up to the second and so on
abbrev pub counts_by : ℕ → ℕ → List ℕ → List ℕ
counts_by before k [] = []
counts_by before k (last ∷ row) = replicate (last - before) k ++ counts_by last (suc k) row

-- f of m numbers from a on
abbrev pub in_a_row : {A : Type 0} → (ℕ → A) → ℕ → ℕ → List A
in_a_row f a zero = []
in_a_row f a (suc m) = f a ∷ in_a_row f (suc a) m

-- by p, then by n
abbrev pub default_counts : List (List ℕ)
default_counts = in_a_row (λ p. in_a_row (λ n. resolve_count 0 n p) 1 512) 0 8

pub record EveryDefaultCount : Type 0 where
  pub every : default_counts ≡ map (counts_by 0 1) last_of_each
