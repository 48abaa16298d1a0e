-- What is printed depends on no byte behind those that are read.
use mathlib.Core.Path.{◌≡◌, refl, sym, ap, ◌∙◌}
use mathlib.Core.Bool.{Bool}
use mathlib.Core.List.{List, ◌++◌, append-nil}
use Prim.Native.Nat.{ℕ, ◌+◌, ◌*◌, ◌-◌, ◌≤◌, ◌<◌}
use native.Mathlib.Nat.{mul-add}
use native.Mathlib.Omega.{arith}
use lib.ListN.{length, take, drop, replicate}
use lib.Seq.{take_all, take-take, take-add, take_at, drop_at}
use Rattle.std.specs.Prelude.{Ok, Err}
use Rattle.wire.specs.Wire.{placed}
use Rattle.text.specs.Listing.{WrittenText}
use Rattle.refusal.specs.declared.Refusal.{Refusal}
use Rattle.checks.specs.Judge.{judge, ruled}
use Rattle.calls.specs.Calls.{AfterCall}
use Rattle.header.specs.declared.Head.{Head}
use Rattle.header.specs.Headers.{Header, header_tests, header_of, parts_len}
use Rattle.listing.specs.Jobs.{answer_text, call_of_parts, whole_text, refused_text, job_text}
use Rattle.header.specs.Cuts.{places_end, predictors_end, responses_end, cut_tests}
use Rattle.listing.specs.Printed.{text_of, printed, printed_parts, read_of}
use Rattle.header.specs.Headers.{asked}
use Rattle.header.proofs.Heads.{header_short}
use Rattle.listing.proofs.Fronts.{drop_take, part_front, load_front, short_front}
use Rattle.listing.proofs.Judged.{parts_printed}

-- ---- header, parts and text

pub header_front : (s : List ℕ) (m : ℕ) → 40 ≤ m → header_of (take m s) ≡ header_of s
unfolding header_of header_tests
header_front s m h =
    rw (short_front s 40 m, load_front s 0 m (omega arith), load_front s 8 m (omega arith), load_front s 16 m (omega arith), load_front s 24 m (omega arith), load_front s 32 m (omega arith))

module _ (h : Head) (parts : List ℕ) (m : ℕ) (whole : responses_end h.n h.p ≤ m) where
  cut_front : cut_tests (length (take m parts)) h.n h.p ≡ cut_tests (length parts) h.n h.p
  unfolding cut_tests
  cut_front = rw (short_front parts (places_end h.n) m (omega arith), short_front parts (predictors_end h.n h.p) m (omega arith), short_front parts (responses_end h.n h.p) m)

  call_front : (out summary : List ℕ) → call_of_parts h (take m parts) out summary ≡ call_of_parts h parts out summary
  unfolding call_of_parts
  call_front out summary =
      rw (take-take (places_end h.n) m parts (omega arith), part_front (8 * (h.n * h.p)) (places_end h.n) m parts (omega arith), part_front (8 * h.n) (predictors_end h.n h.p) m parts)

  job_front : job_text h (take m parts) ≡ job_text h parts
  unfolding job_text whole_text
  job_front =
      ap (λ (ts : List (Bool × Refusal)). ruled (judge ts) refused_text (whole_text h (take m parts) (replicate 45056 0) (replicate 24 0))) cut_front
      ∙ ap (λ (a : AfterCall). ruled (judge (cut_tests (length parts) h.n h.p)) refused_text (answer_text a h.n (h.p + 4))) (call_front (replicate 45056 0) (replicate 24 0))

text_front : (h : Header) (parts : List ℕ) → text_of h (take (asked h) parts) ≡ text_of h parts
text_front (Ok h) parts = job_front h parts (parts_len h.n h.p) (omega (arith, mul-add h.n h.p 3))
text_front (Err r) parts = refl

-- what is printed of the bytes that the program reads is what is printed of its standard input
parts_read : (input : List ℕ) → printed_parts (read_of input) ≡ printed_parts input
unfolding printed_parts
parts_read input =
    let a = asked (header_of input) in
    let e : read_of input ≡ take (40 + a) input = ap (λ (h : Header). take 40 input ++ take (asked h) (drop 40 input)) (header_front input 40 (omega arith)) ∙ sym (take-add 40 a input) in
    let d : drop 40 (take (40 + a) input) ≡ take a (drop 40 input) = drop_take 40 (40 + a) input (omega arith) ∙ ap (λ (k : ℕ). take k (drop 40 input)) (let z : 40 + a - 40 ≡ a = omega arith in z) in
    ap printed_parts e
    ∙ ap (λ (h : Header). text_of h (drop 40 (take (40 + a) input))) (header_front input (40 + a) (omega arith))
    ∙ ap (text_of (header_of input)) d
    ∙ text_front (header_of input) (drop 40 input)

pub printed_read : (input : List ℕ) → printed (read_of input) ≡ printed input
printed_read input = sym (parts_printed (read_of input)) ∙ parts_read input ∙ parts_printed input

-- of an input of which the program has read what it asks for, the bytes that it hands on to be written are all that is owed
pub handed_on : (input d₀ d : List ℕ) (end : ℕ) → WrittenText d₀ 0 (printed (read_of input)) d end → take end d ≡ printed input
unfolding placed
handed_on input d₀ d end w =
    let line = printed (read_of input) in
    ap (take end) w.is ∙ take_at line (drop (0 + length line) d₀) end (omega (arith, w.stop)) ∙ printed_read input

-- ---- no byte more

-- bytes that are too few for a header ask for none
pub asked_none : (s : List ℕ) → length s < 40 → asked (header_of s) ≡ 0
asked_none s h = sym (ap (λ (k : Header). asked k) (header_short s h))

pub read_short : (s : List ℕ) → length s < 40 → read_of s ≡ s
read_short s h =
    let e : take 40 s ≡ s = take_all 40 s (omega arith) in
    ap (λ (k : ℕ). take 40 s ++ take k (drop 40 s)) (ap (λ (l : List ℕ). asked (header_of l)) e ∙ asked_none s h) ∙ append-nil (take 40 s) ∙ e

-- a header's bytes, and no more than these ask for
pub read_long : (a b : List ℕ) → length a ≡ 40 → length b ≤ asked (header_of a) → read_of (a ++ b) ≡ a ++ b
read_long a b h m =
    ap (λ (l : List ℕ). l ++ take (asked (header_of l)) (drop 40 (a ++ b))) (take_at a b 40 h)
    ∙ ap (λ (l : List ℕ). a ++ take (asked (header_of a)) l) (drop_at a b 40 h)
    ∙ ap (λ (l : List ℕ). a ++ l) (take_all (asked (header_of a)) b m)
