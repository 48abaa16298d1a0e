-- What holds of a call that no test refuses: the fit's own list refuses nothing either, and no byte behind those written is altered.
use Rattle.std.specs.Prelude.{Result, Ok, Err}
use mathlib.Core.Path.{◌≡◌, refl, sym, ap, ◌∙◌}
use mathlib.Core.Bool.{Bool, true, false, ◌||◌}
use mathlib.Core.List.{List, ◌++◌}
use Prim.Native.Nat.{ℕ, ◌+◌, ◌*◌, ◌/◌, ◌-◌, ◌≤◌}
use native.Mathlib.Omega.{arith}
use borrow.Author.Tests.{ltb-false}
use lib.Dec.{ltb}
use lib.ListN.{length, take, drop, replicate, length-append, length-take, length-replicate}
use lib.Seq.{drop_at, drop-drop}
use lib.Ieee.{Float, is_nan, to_bits, of_bits}
use Rattle.real.specs.Reals.{zero64}
use Rattle.wire.specs.Wire.{bits_of, bytes_of, real_bytes, placed}
use Rattle.wire.proofs.Numbers.{length_bytes_of}
use Rattle.wire.proofs.Placed.{length_placed}
use Rattle.wire.proofs.Encoding.{length_real_bytes}
use Rattle.refusal.specs.declared.Refusal.{Refusal}
use Rattle.setup.specs.declared.GwrOptions.{GwrOptions}
use Rattle.criterion.specs.declared.Summary.{Summary}
use Rattle.criterion.specs.Aicc.{failed_summary}
use Rattle.checks.specs.Judge.{judge, NoneOf}
use Rattle.checks.proofs.Judge.{none_head, none_append}
use Rattle.input.specs.Checks.{value_tests, fit_tests}
use Rattle.gwr.specs.Fit.{rows_written}
use Rattle.gwr.specs.declared.Fit.{Fit}
use Rattle.gwr.proofs.Bounds.{fits}
use Rattle.request.specs.Options.{options_of, is_unknown, named}
use Rattle.calls.specs.Calls.{numbers_of, number_tests, call_tests, AfterCall, summary_bytes, placed_rows, answer_bytes, numbers_fit, fit_bytes}
use Rattle.request.specs.Lengths.{byte_tests, ByteLengths}
use Rattle.calls.proofs.Judged.{room_enough, fit_judged, call_decides}
use Rattle.request.proofs.Lengths.{passed}

-- ---- bytes behind those that are placed

pub placed_behind : {A : Type 0} (l row : List A) (k : ℕ) → length row ≤ k → drop k (placed l 0 row) ≡ drop k l
unfolding placed
placed_behind l row k h =
    let j = k - length row in
    let e : length row + j ≡ k = omega arith in
    let f : 0 + length row + j ≡ k = omega arith in
    ap (λ (i : ℕ). drop i (row ++ drop (0 + length row) l)) (sym e)
    ∙ sym (drop-drop j (length row) (row ++ drop (0 + length row) l))
    ∙ ap (drop j) (drop_at row (drop (0 + length row) l) (length row) refl)
    ∙ drop-drop j (0 + length row) l
    ∙ ap (λ (i : ℕ). drop i l) f

-- ---- a summary's bytes

pub summary_long : (v : Summary) → length (summary_bytes v) ≡ 24
unfolding summary_bytes
summary_long v =
    let one = bytes_of (bits_of v.bandwidth) in
    let two = bytes_of (bits_of v.aicc) in
    let three = bytes_of v.solves in
    length-append one (two ++ three) ∙ omega (arith, length-append two three, length_bytes_of (bits_of v.bandwidth), length_bytes_of (bits_of v.aicc), length_bytes_of v.solves)

zero_bits : bits_of zero64 ≡ 0
unfolding bits_of is_nan to_bits of_bits
zero_bits = refl

-- after a refusal met while solving they are zeros but for the solve count
pub failed_bytes : (solves : ℕ) → summary_bytes (failed_summary solves) ≡ bytes_of 0 ++ (bytes_of 0 ++ bytes_of solves)
unfolding summary_bytes
failed_bytes solves = ap (λ (z : ℕ). bytes_of z ++ (bytes_of z ++ bytes_of solves)) zero_bits

-- ---- the bytes after an answer

-- out and summary are as they were from so many bytes on, and as long
pub record Untouched (from : ℕ) (out summary : List ℕ) (a : AfterCall) : Type 0 where
  pub rows : drop from a.1.0 ≡ drop from out
  pub sums : drop 24 a.1.1 ≡ drop 24 summary
  pub long : (length a.1.0 ≡ length out) × (length a.1.1 ≡ length summary)

module _ (rows : List Float) (out summary : List ℕ) (from : ℕ) (front : length (real_bytes rows) ≤ from) (within : from ≤ length out) (space : 24 ≤ length summary) where
  rows_untouched : (number : ℕ) (v : Summary) → Untouched from out summary (placed_rows number rows v out summary)
  unfolding placed_rows
  rows_untouched number v =
      let t = summary_long v in
      record {
        rows = placed_behind out (real_bytes rows) from front;
        sums = placed_behind summary (summary_bytes v) 24 (omega (arith, t));
        long = (length_placed out 0 (real_bytes rows) (omega (arith, front, within)), length_placed summary 0 (summary_bytes v) (omega (arith, t, space)));
      }

  answer_untouched : (a : Result Fit Refusal) → Untouched from out summary (answer_bytes a rows out summary)
  answer_untouched (Ok f) = rows_untouched _ f.finish.summary
  answer_untouched (Err r) = record { rows = refl; sums = refl; long = (refl, refl) }

-- ---- a call that no test refuses

neither : (a b : Bool) → (a || b) ≡ false → (a ≡ false) × (b ≡ false)
neither true b e = (cc, cc)
neither false b e = (refl, e)

module _ (coords x y : List ℕ) (p kernel kind bandwidth : ℕ) (out summary : List ℕ) where
  abbrev n : ℕ
  n = length coords / 16

  abbrev o : GwrOptions
  o = named (options_of kernel kind bandwidth)

  abbrev room : List Float
  room = replicate (n * (p + 4)) zero64

  abbrev f : Result Fit Refusal × List Float
  f = numbers_fit coords x y p o

  abbrev tests : List (Bool × Refusal)
  tests = call_tests coords x y p kernel kind bandwidth (length out) (length summary)

  pub record CallPassed : Type 0 where
    pub known : is_unknown (options_of kernel kind bandwidth) ≡ false
    pub lengths : ByteLengths (length coords) (length x) (length y) p
    pub bytes : 8 * (n * (p + 4)) ≤ length out
    pub whole : 24 ≤ length summary
    -- the fit of the numbers, with an output of n rows, is not refused
    pub fitted : NoneOf (fit_tests (numbers_of coords x y p) p o (length room))

  pub call_passed : NoneOf tests → CallPassed
  unfolding call_tests number_tests
  call_passed h =
      let t = none_head _ _ _ h in
      let b = none_append (byte_tests (length coords) (length x) (length y) p) _ t.1 in
      let l = passed _ _ _ _ b.0 in
      let behind = (none_append (value_tests (numbers_of coords x y p)) _ (none_head _ _ _ b.1).1).1 in
      let enough = (none_head _ _ _ behind).0 in
      let each = neither (ltb (length out) (8 * (n * (p + 4)))) (ltb (length summary) 24) enough in
      record {
        known = t.0;
        lengths = l;
        bytes = ltb-false _ _ each.0;
        whole = ltb-false _ _ each.1;
        fitted =
            ap (λ (k : ℕ). judge (fit_tests (numbers_of coords x y p) p o k)) (length-replicate (n * (p + 4)) zero64 ∙ sym (room_enough n p (length out) (length summary) enough))
            ∙ fit_judged coords x y p o (length out) (length summary) l
            ∙ b.1;
      }

  -- it leaves every byte behind the rows written and behind the summary's 24
  pub call_untouched : NoneOf tests → Untouched (8 * (rows_written f.0 * (p + 4))) out summary (fit_bytes coords x y p kernel kind bandwidth out summary)
  call_untouched h =
      let z = call_passed h in
      let numbers = take (rows_written f.0 * (p + 4)) f.1 in
      let g = fits (numbers_of coords x y p) p o room in
      let e = (call_decides coords x y p out summary kernel kind bandwidth).served h in
      rw e
      (answer_untouched numbers out summary (8 * (rows_written f.0 * (p + 4))) (omega (arith, length_real_bytes numbers, length-take (rows_written f.0 * (p + 4)) f.1))
      (omega (arith, g.rows, length-replicate (n * (p + 4)) zero64, z.bytes)) z.whole f.0)
