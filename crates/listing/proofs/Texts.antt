-- Texts, case by case.
use mathlib.Core.Path.{◌≡◌, sym, ap, subst, ◌∙◌}
use mathlib.Core.List.{List}
use Prim.Native.Nat.{ℕ, ◌+◌, ◌-◌, ◌≤◌, ◌<◌}
use native.Mathlib.Omega.{arith}
use borrow.Author.Tests.{lt-ltb, le-ltb}
use lib.ListN.{length, take, drop, replicate, length-append, length-drop}
use lib.Seq.{take_all}
use Rattle.std.specs.Prelude.{Ok, Err}
use Rattle.wire.specs.Wire.{load_of, placed}
use Rattle.text.specs.Listing.{refused_line, listing, rows_of, WrittenText}
use Rattle.refusal.proofs.Range.{numbered}
use Rattle.refusal.specs.Numbers.{refusal_number}
use Rattle.refusal.specs.declared.Refusal.{Refusal}
use Rattle.calls.specs.Calls.{AfterCall, fit_bytes}
use Rattle.calls.proofs.Counts.{Answered, answered}
use Rattle.header.specs.declared.Head.{Head}
use Rattle.header.specs.Headers.{Header, header_of}
use Rattle.listing.specs.Jobs.{answer_text, whole_text, job_text}
use Rattle.listing.specs.Printed.{text_of, printed_parts}

pub number_small : (r : Refusal) (n : ℕ) → n ≡ refusal_number r → n < 1000000
number_small r n e = omega (arith, (numbered r).most, e)

pub refused_text_lem : (a : AfterCall) (n width : ℕ) → 0 < a.0 → refused_line a.0 ≡ answer_text a n width
unfolding answer_text
refused_text_lem a n width h = rw (lt-ltb 0 a.0 h)

pub listing_text : (a : AfterCall) (n width : ℕ) → a.0 ≤ 0 → listing (load_of a.1.1 0) (load_of a.1.1 8) (load_of a.1.1 16) (rows_of a.1.0 width n) ≡ answer_text a n width
unfolding answer_text
listing_text a n width h = rw (le-ltb 0 a.0 h)

-- what a fit's answer is at most
pub fit_answered : (coords x y : List ℕ) (p kernel kind bandwidth : ℕ) (out summary : List ℕ) (a : AfterCall) → a ≡ fit_bytes coords x y p kernel kind bandwidth out summary → Answered a
fit_answered coords x y p kernel kind bandwidth out summary a e = subst Answered (sym e) (answered coords x y p kernel kind bandwidth out summary)

module _ (h : Head) (parts : List ℕ) where
  abbrev whole : List ℕ
  whole = whole_text h parts (replicate 45056 0) (replicate 24 0)

-- the text of an input, of the header that was read and the bytes behind it
pub refused_input : (input : List ℕ) (r : Refusal) (number : ℕ) → header_of input ≡ Err r → number ≡ refusal_number r → refused_line number ≡ printed_parts input
unfolding printed_parts
refused_input input r number e i = ap refused_line i ∙ sym (ap (λ (z : Header). text_of z (drop 40 input)) e)

pub whole_input : (input : List ℕ) (h : Head) → header_of input ≡ Ok h → job_text h (take (length input - 40) (drop 40 input)) ≡ printed_parts input
unfolding printed_parts
whole_input input h e =
    ap (job_text h) (take_all (length input - 40) (drop 40 input) (omega (arith, length-drop 40 input))) ∙ sym (ap (λ (z : Header). text_of z (drop 40 input)) e)

-- a part from f up to f + m
pub part_is : (f m : ℕ) (l : List ℕ) → take (f + m - f) (drop f l) ≡ take m (drop f l)
part_is f m l = let e : f + m - f ≡ m = omega arith in ap (λ (k : ℕ). take k (drop f l)) e

-- a text ends within what it was written into
pub end_within : (d₀ line d : List ℕ) (end : ℕ) → WrittenText d₀ 0 line d end → end ≤ length d
unfolding placed
end_within d₀ line d end w =
    let n : length d ≡ length line + length (drop (0 + length line) d₀) = ap length w.is ∙ length-append line (drop (0 + length line) d₀) in
    omega (arith, n, w.stop)
