-- What the fit call's answer is at most: its number, and the solve count of a fit.
use Rattle.std.specs.Prelude.{Result, Ok, Err, Option, Some, None, IfOk}
use Rattle.gwr.specs.declared.Fit.{Fit}
use mathlib.Core.Path.{◌≡◌, sym, ap, ◌∙◌}
use mathlib.Core.List.{List, ◌++◌, append_assoc}
use Prim.Native.Nat.{ℕ, ◌+◌, ◌*◌, ◌/◌, ◌^◌, ◌≤◌, ◌<◌}
use native.Mathlib.Omega.{arith}
use lib.ListN.{length, take, drop, replicate, length-append}
use lib.Seq.{take_all}
use lib.Ieee.{Float}
use Rattle.std.specs.Prelude.{Ok, Err}
use Rattle.real.specs.Reals.{zero64}
use Rattle.wire.specs.Wire.{bits_of, bytes_of, load_of, placed}
use Rattle.wire.proofs.Numbers.{length_bytes_of, load_stored}
use Rattle.refusal.proofs.Range.{most_number, numbered}
use Rattle.refusal.specs.declared.Refusal.{Refusal}
use Rattle.criterion.specs.declared.Summary.{Summary}
use Rattle.setup.specs.declared.GwrOptions.{GwrOptions}
use Rattle.checks.specs.Judge.{Check, judge, ruled}
use Rattle.sweep.specs.Finish.{number_at}
use Rattle.gwr.specs.Fit.{rows_written}
use Rattle.request.specs.Options.{options_of, named}
use Rattle.calls.specs.Calls.{AfterCall, refused_call, summary_bytes, placed_rows, answer_bytes, fitted_bytes, numbers_of, numbers_fit, call_tests, fit_bytes}
use Rattle.gwr.proofs.Bounds.{Made, fits}

-- the solve count that a summary's bytes hold
pub summary_solves : (s : List ℕ) (v : Summary) → v.solves < 2 ^ 64 → load_of (placed s 0 (summary_bytes v)) 16 ≡ v.solves
unfolding placed summary_bytes
summary_solves s v h =
    let one : List ℕ = bytes_of (bits_of v.bandwidth) in
    let two : List ℕ = bytes_of (bits_of v.aicc) in
    let three : List ℕ = bytes_of v.solves in
    let rest : List ℕ = drop (0 + length (one ++ (two ++ three))) s in
    let long : length (one ++ two) ≡ 16 = length-append one two ∙ omega (arith, length_bytes_of (bits_of v.bandwidth), length_bytes_of (bits_of v.aicc)) in
    let shape : (one ++ (two ++ three)) ++ rest ≡ (one ++ two) ++ (three ++ rest) =
    ap (λ (l : List ℕ). l ++ rest) (sym (append_assoc one two three)) ∙ append_assoc (one ++ two) three rest in
    let front : one ++ two ≡ take 16 (one ++ two) = sym (take_all 16 (one ++ two) (omega (arith, long))) in
    ap (λ (l : List ℕ). load_of l 16) (shape ∙ ap (λ (l : List ℕ). l ++ (three ++ rest)) front)
    ∙ load_stored (one ++ two) 16 v.solves rest (omega (arith, long)) h

-- the number is 0 or a refusal's, which is at most `most_number`; where it is 0, the solve count is at most 512·103
pub record Answered (a : AfterCall) : Type 0 where
  pub number : a.0 ≤ most_number
  pub solves : a.0 ≡ 0 → load_of a.1.1 16 ≤ 52736

answered_refused : (r : Refusal) (out summary : List ℕ) → Answered (refused_call r out summary)
answered_refused r out summary =
    let k = numbered r in
    record { number = k.most; solves = λ z. absurd (omega (arith, k.some, z)) }

-- a finish by its refusal
answered_made : (number : Option Refusal) (rows : List Float) (v : Summary) (out summary : List ℕ) → v.solves ≤ 52736 → Answered (placed_rows (number_at number) rows v out summary)
unfolding placed_rows
answered_made None rows v out summary few =
    record { number = omega arith; solves = λ z. omega (arith, few, summary_solves summary v (omega (arith, few))) }
answered_made (Some r) rows v out summary few =
    let k = numbered r in
    record { number = k.most; solves = λ z. absurd (omega (arith, k.some, z)) }

answered_sound : (a : Result Fit Refusal) (n room : ℕ) (rows : List Float) (out summary : List ℕ) → IfOk a (λ f. Made n room f) → Answered (answer_bytes a rows out summary)
answered_sound (Ok f) n room rows out summary w = answered_made f.finish.refusal rows f.finish.summary out summary w.few
answered_sound (Err r) n room rows out summary w = answered_refused r out summary

answered_fit : (coords x y : List ℕ) (p : ℕ) (o : GwrOptions) (out summary : List ℕ) → Answered (fitted_bytes p (numbers_fit coords x y p o) out summary)
answered_fit coords x y p o out summary =
    let rows : List Float = replicate (length coords / 16 * (p + 4)) zero64 in
    let s = fits (numbers_of coords x y p) p o rows in
    let f = numbers_fit coords x y p o in
    answered_sound f.0 _ (length rows) (take (rows_written f.0 * (p + 4)) f.1) out summary s.sound

pub answered : (coords x y : List ℕ) (p kernel kind bandwidth : ℕ) (out summary : List ℕ) → Answered (fit_bytes coords x y p kernel kind bandwidth out summary)
unfolding fit_bytes ruled
answered coords x y p kernel kind bandwidth out summary = go (judge (call_tests coords x y p kernel kind bandwidth (length out) (length summary)))
  where
    o : GwrOptions
    o = named (options_of kernel kind bandwidth)

    go : (k : Check) → Answered (ruled k (λ (r : Refusal). refused_call r out summary) (fitted_bytes p (numbers_fit coords x y p o) out summary))
    go (Ok passed) = answered_fit coords x y p o out summary
    go (Err r) = answered_refused r out summary
