-- The rows that a job record has written: none in a search, those before its location in the final fit, and after it those that the ending says. Definitions only.
use Rattle.refusal.specs.declared.Refusal.{Refusal}
use Rattle.std.specs.Prelude.{ℕ, ◌+◌, ◌*◌, cond, eqb, Ok, Err, Result, Float}
use Rattle.claims.specs.Words.{refusal_number, Job, by_stage}

-- 01: a job that ends keeps the location of its last solve. With a value or 17 that was n - 1, and its row was written; with 27, 14, 15 or 16 its row was not
abbrev pub rows_ended : Result Float Refusal → ℕ → ℕ → ℕ
rows_ended (Ok v) n i = n
rows_ended (Err r) n i = cond (eqb (refusal_number r) 17) n i

-- 01: only the final fit writes, row by row
abbrev pub written_rows : Job → ℕ
written_rows j = by_stage 0 j.sweep.location (λ (c : Result Float Refusal). rows_ended c j.setup.n j.sweep.location) j.stage

-- how many numbers at the front of the output
abbrev pub written : Job → ℕ
written j = written_rows j * (j.setup.p + 4)
