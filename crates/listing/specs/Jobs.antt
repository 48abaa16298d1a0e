-- The text of a job behind its header, part by part. Definitions only.
use Rattle.std.specs.Prelude.{ℕ, ◌+◌, ◌*◌, cond, List, ltb, length, take, drop, replicate}
use Rattle.wire.specs.Wire.{load_of}
use Rattle.text.specs.Listing.{refused_line, listing, rows_of}
use Rattle.refusal.specs.Numbers.{refusal_number}
use Rattle.refusal.specs.declared.Refusal.{Refusal}
use Rattle.checks.specs.Judge.{judge, ruled}
use Rattle.calls.specs.Calls.{AfterCall, fit_bytes}
use Rattle.header.specs.declared.Head.{Head}
use Rattle.header.specs.Cuts.{places_end, predictors_end, cut_tests}

-- 01: a refusal prints `fit` and its number only
abbrev pub refused_text : Refusal → List ℕ
refused_text r = refused_line (refusal_number r)

-- ---- what the code's parts give

-- a refusal's line, or the listing of n rows of so many numbers
unfoldable pub answer_text : AfterCall → ℕ → ℕ → List ℕ
answer_text a n width =
    cond (ltb 0 a.0) (refused_line a.0)
    (listing (load_of a.1.1 0) (load_of a.1.1 8) (load_of a.1.1 16) (rows_of a.1.0 width n))

-- the fit call of the job's parts, from what output and summary held before
unfoldable pub call_of_parts : Head → List ℕ → List ℕ → List ℕ → AfterCall
call_of_parts h parts out summary =
    fit_bytes (take (places_end h.n) parts) (take (8 * (h.n * h.p)) (drop (places_end h.n) parts))
    (take (8 * h.n) (drop (predictors_end h.n h.p) parts)) h.p h.kernel h.kind h.bandwidth out summary

unfoldable pub whole_text : Head → List ℕ → List ℕ → List ℕ → List ℕ
whole_text h parts out summary = answer_text (call_of_parts h parts out summary) h.n (h.p + 4)

-- the text of a job; bytes left over are ignored
unfoldable pub job_text : Head → List ℕ → List ℕ
job_text h parts = ruled (judge (cut_tests (length parts) h.n h.p)) refused_text (whole_text h parts (replicate 45056 0) (replicate 24 0))
