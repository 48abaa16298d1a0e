-- The fit call: its list of tests, what it answers, and every byte that it leaves. Definitions only.
use Rattle.std.specs.Prelude.{ℕ, ◌+◌, ◌*◌, ◌/◌, ◌≤◌, Bool, cond, ◌||◌, List, ◌∷◌, ◌++◌, ltb, length, take, replicate, Float, Result, Ok, Err}
use Rattle.real.specs.Reals.{zero64}
use Rattle.wire.specs.Wire.{bits_of, bytes_of, reals, real_bytes, placed}
use Rattle.refusal.specs.Numbers.{refusal_number}
use Rattle.refusal.specs.declared.Refusal.{Refusal}
use Rattle.refusal.specs.declared.Refusal.TheVariants.{TooFewObservations, OutputTooShort, UnknownNumber}
use Rattle.checks.specs.Judge.{judge, ruled}
use Rattle.setup.specs.declared.GwrOptions.{GwrOptions}
use Rattle.setup.specs.Data.{Data, trusting}
use Rattle.setup.specs.Shape.{setup_of}
use Rattle.criterion.specs.declared.Summary.{Summary}
use Rattle.input.specs.Checks.{value_tests, option_tests}
use Rattle.sweep.specs.Finish.{finish_number}
use Rattle.gwr.specs.declared.Fit.{Fit}
use Rattle.gwr.specs.Fit.{gwr_fit, rows_written}
use Rattle.request.specs.Lengths.{byte_tests}
use Rattle.request.specs.Options.{options_of, is_unknown, named}

-- ---- the fit call's tests

-- the numbers that the bytes of coordinates, predictors and responses are, of p predictors; n is a sixteenth of the coordinates' bytes. 02: every trust is set to 1
abbrev pub numbers_of : List ℕ → List ℕ → List ℕ → ℕ → Data
numbers_of coords x y p = let n = length coords / 16 in trusting (reals coords (2 * n)) (reals x (n * p)) (reals y n)

-- 01: 13 the output has fewer than 8·n·(p + 4) bytes, or the summary fewer than 24
abbrev pub lent_too_short : ℕ → ℕ → ℕ → ℕ → Bool
lent_too_short n p out summary = ltb out (8 * (n * (p + 4))) || ltb summary 24

-- 01's order behind the byte lengths: 7, 8 to 10, 13 of the bytes lent for output and summary, 11, 12; 26 stands among them and never holds
unfoldable pub number_tests : List ℕ → List ℕ → List ℕ → ℕ → GwrOptions → ℕ → ℕ → List (Bool × Refusal)
number_tests coords x y p o out summary =
    let n = length coords / 16 in
    let d = numbers_of coords x y p in
    (ltb n (p + 1), TooFewObservations)
    ∷ (value_tests d ++ ((lent_too_short n p out summary, OutputTooShort) ∷ option_tests (setup_of d p o) d))

-- 01's order for the fit call: 18, 1 to 6 of bytes, then as above
unfoldable pub call_tests : List ℕ → List ℕ → List ℕ → ℕ → ℕ → ℕ → ℕ → ℕ → ℕ → List (Bool × Refusal)
call_tests coords x y p kernel kind bandwidth out summary =
    let c = options_of kernel kind bandwidth in
    (is_unknown c, UnknownNumber)
    ∷ (byte_tests (length coords) (length x) (length y) p ++ number_tests coords x y p (named c) out summary)

-- ---- the fit call

-- a refusal's number or 0, the output and the summary after the call
abbrev pub AfterCall : Type 0
AfterCall = ℕ × (List ℕ × List ℕ)

-- a refusal from the input writes nothing at all
abbrev pub refused_call : Refusal → List ℕ → List ℕ → AfterCall
refused_call r out summary = (refusal_number r, (out, summary))

-- bandwidth, AICc and solves, 8 bytes each
unfoldable pub summary_bytes : Summary → List ℕ
summary_bytes v = bytes_of (bits_of v.bandwidth) ++ (bytes_of (bits_of v.aicc) ++ bytes_of v.solves)

-- rows and summary over the front of the bytes lent for them
unfoldable pub placed_rows : ℕ → List Float → Summary → List ℕ → List ℕ → AfterCall
placed_rows number rows v out summary = (number, (placed out 0 (real_bytes rows), placed summary 0 (summary_bytes v)))

-- a refusal met while solving keeps the rows before it
abbrev pub answer_bytes : Result Fit Refusal → List Float → List ℕ → List ℕ → AfterCall
answer_bytes (Ok f) rows out summary = placed_rows (finish_number f.finish) rows f.finish.summary out summary
answer_bytes (Err r) rows out summary = refused_call r out summary

-- a fit's answer, with as many rows of p + 4 numbers as it says
abbrev pub fitted_bytes : ℕ → Result Fit Refusal × List Float → List ℕ → List ℕ → AfterCall
fitted_bytes p f out summary = answer_bytes f.0 (take (rows_written f.0 * (p + 4)) f.1) out summary

-- the fit of the numbers, with an output of n rows
abbrev pub numbers_fit : List ℕ → List ℕ → List ℕ → ℕ → GwrOptions → Result Fit Refusal × List Float
numbers_fit coords x y p o = gwr_fit (numbers_of coords x y p) p o (replicate (length coords / 16 * (p + 4)) zero64)

-- the first test that holds refuses; where none holds, the fit of the numbers is answered
unfoldable pub fit_bytes : List ℕ → List ℕ → List ℕ → ℕ → ℕ → ℕ → ℕ → List ℕ → List ℕ → AfterCall
fit_bytes coords x y p kernel kind bandwidth out summary =
    ruled (judge (call_tests coords x y p kernel kind bandwidth (length out) (length summary)))
    (λ (r : Refusal). refused_call r out summary)
    (fitted_bytes p (numbers_fit coords x y p (named (options_of kernel kind bandwidth))) out summary)

-- ---- what the code's parts give and need

-- how many numbers the fit may write: n rows, or none where 13 is owed
unfoldable pub room_of : ℕ → ℕ → ℕ → ℕ → ℕ
room_of n p out summary = cond (ltb summary 24) 0 (cond (ltb out (8 * (n * (p + 4)))) 0 (n * (p + 4)))

-- the fit of bytes of the right lengths, which leaves the other tests to the fit
unfoldable pub fit_parts : List ℕ → List ℕ → List ℕ → ℕ → GwrOptions → List ℕ → List ℕ → AfterCall
fit_parts coords x y p o out summary =
    fitted_bytes p (gwr_fit (numbers_of coords x y p) p o (replicate (room_of (length coords / 16) p (length out) (length summary)) zero64)) out summary

-- a part of a buffer that the fit may write: its bytes have room in the output, and none is offered without the summary's 24
pub record Offered (room out summary : ℕ) : Type 0 where
  pub bytes : 8 * room ≤ out
  pub whole : 1 ≤ room → 24 ≤ summary
