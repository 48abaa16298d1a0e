-- The text of bytes that hold numbers is the text of the numbers.
use Rattle.std.specs.Prelude.{Result, Ok, Err, Option, Some, None, IfOk}
use Rattle.refusal.specs.declared.Refusal.{Refusal}
use Rattle.gwr.specs.declared.Fit.{Fit}
use mathlib.Core.Path.{◌≡◌, refl, sym, ap, ◌∙◌}
use mathlib.Core.List.{List, [], ◌∷◌, ◌++◌, map, map-append, append_assoc}
use Prim.Native.Nat.{ℕ, zero, suc, ◌+◌, ◌*◌, ◌/◌, ◌%◌, ◌≤◌, ◌<◌}
use native.Mathlib.Nat.{suc-mul}
use native.Mathlib.Omega.{arith}
use lib.ListN.{length, take, drop, get_or, length-drop}
use lib.Seq.{take_all, take_at, drop_at, drop-drop, take-suc, get_or-drop}
use lib.Ieee.{Float, nan}
use Rattle.wire.specs.Wire.{bits_of, low_bytes, bytes_of, number_of, load_of, placed, real_bytes}
use Rattle.wire.proofs.Numbers.{length_bytes_of}
use Rattle.text.specs.Listing.{hex_in, bits_text, bits_texts, row_line, row_lines, summary_line, listing, loads, rows_of}
use Rattle.refusal.proofs.Range.{numbered}
use Rattle.criterion.specs.declared.Summary.{Summary}
use Rattle.refusal.specs.Numbers.{refusal_number}
use Rattle.sweep.specs.Finish.{number_at}
use Rattle.gwr.specs.Fit.{rows_written as fit_rows}
use Rattle.gwr.proofs.Bounds.{Made}
use Rattle.calls.specs.Calls.{summary_bytes, placed_rows, answer_bytes}
use Rattle.calls.proofs.Counts.{summary_solves}
use Rattle.listing.specs.Jobs.{answer_text}
use Rattle.listing.specs.Numbers.{rows_in, finish_text, fit_text}
use Rattle.listing.proofs.Texts.{refused_text_lem, listing_text}

-- ---- a number from its 8 bytes: its 16 lowest hexadecimal digits are there

abbrev low : ℕ → ℕ
low v = number_of (bytes_of v)

abbrev twice : ℕ → ℕ
twice zero = zero
twice (suc k) = suc (suc (twice k))

hex_pairs : (k v : ℕ) → hex_in (twice k) (number_of (low_bytes k v)) ≡ hex_in (twice k) v
unfolding hex_in low_bytes number_of
hex_pairs zero v = refl
hex_pairs (suc k) v =
    let m = number_of (low_bytes k (v / 256)) in
    let w = v % 256 + 256 * m in
    let a : w / 16 / 16 ≡ m = omega arith in
    let b : w / 16 % 16 ≡ v / 16 % 16 = omega arith in
    let c : w % 16 ≡ v % 16 = omega arith in
    let d : v / 16 / 16 ≡ v / 256 = omega arith in
    rw (a, b, c, d, hex_pairs k (v / 256))

bits_low : (v : ℕ) → bits_text (low v) ≡ bits_text v
unfolding bits_text bytes_of
bits_low v = ap (λ (l : List ℕ). 32 ∷ l) (hex_pairs 8 v)

-- ---- numbers one after the other

load_here : (v : ℕ) (rest : List ℕ) → load_of (bytes_of v ++ rest) 0 ≡ low v
unfolding load_of
load_here v rest = ap number_of (take_at (bytes_of v) rest 8 (length_bytes_of v))

load_behind : (v : ℕ) (rest : List ℕ) (k : ℕ) → load_of (bytes_of v ++ rest) (8 + k) ≡ load_of rest k
unfolding load_of
load_behind v rest k =
    ap (λ (l : List ℕ). number_of (take 8 l)) (sym (drop-drop k 8 (bytes_of v ++ rest)) ∙ ap (drop k) (drop_at (bytes_of v) rest 8 (length_bytes_of v)))

abbrev low_bits : Float → ℕ
low_bits x = low (bits_of x)

load_real : (xs : List Float) (rest : List ℕ) (k : ℕ) → k < length xs → load_of (real_bytes xs ++ rest) (8 * k) ≡ low_bits (get_or xs k nan)
unfolding real_bytes
load_real [] rest k h = absurd (omega arith)
load_real (x ∷ xs) rest zero h = ap (λ (l : List ℕ). load_of l 0) (append_assoc (bytes_of (bits_of x)) (real_bytes xs) rest) ∙ load_here (bits_of x) (real_bytes xs ++ rest)
load_real (x ∷ xs) rest (suc k) h =
    let e : 8 * suc k ≡ 8 + 8 * k = omega arith in
    ap (λ (l : List ℕ). load_of l (8 * suc k)) (append_assoc (bytes_of (bits_of x)) (real_bytes xs) rest)
    ∙ ap (load_of (bytes_of (bits_of x) ++ (real_bytes xs ++ rest))) e
    ∙ load_behind (bits_of x) (real_bytes xs ++ rest) (8 * k)
    ∙ load_real xs rest k (omega arith)

module _ (xs : List Float) (rest : List ℕ) where
  abbrev s : List ℕ
  s = real_bytes xs ++ rest

  loads_real : (first m : ℕ) → first + m ≤ length xs → loads s first m ≡ map low_bits (take m (drop first xs))
  unfolding loads
  loads_real first zero h = refl
  loads_real first (suc m) h =
      let d = drop first xs in
      let one : low_bits (get_or d m nan) ≡ load_of s (8 * (first + m)) = ap low_bits (get_or-drop first xs m nan) ∙ sym (load_real xs rest (first + m) (omega arith)) in
      let more : map low_bits (take (suc m) d) ≡ map low_bits (take m d) ++ (low_bits (get_or d m nan) ∷ []) =
      ap (map low_bits) (take-suc d m nan (omega (arith, length-drop first xs))) ∙ map-append low_bits (take m d) (get_or d m nan ∷ []) in
      ap (λ (l : List ℕ). l ++ (load_of s (8 * (first + m)) ∷ [])) (loads_real first m (omega arith))
      ∙ ap (λ (v : ℕ). map low_bits (take m d) ++ (v ∷ [])) (sym one)
      ∙ sym more

  rows_real : (width n : ℕ) → n * width ≤ length xs → rows_of s width n ≡ map (map low_bits) (rows_in xs width n)
  unfolding rows_of rows_in
  rows_real width zero h = refl
  rows_real width (suc n) h =
      let e = suc-mul n width in
      ap (λ (l : List (List ℕ)). l ++ (loads s (n * width) width ∷ [])) (rows_real width n (omega arith))
      ∙ ap (λ (r : List ℕ). map (map low_bits) (rows_in xs width n) ++ (r ∷ [])) (loads_real (n * width) width (omega arith))
      ∙ sym (map-append (map low_bits) (rows_in xs width n) (take width (drop (n * width) xs) ∷ []))

-- ---- their text

texts_low : (row : List Float) → bits_texts (map low_bits row) ≡ bits_texts (map bits_of row)
unfolding bits_texts
texts_low [] = refl
texts_low (x ∷ row) = rw (bits_low (bits_of x), texts_low row)

rows_low : (i : ℕ) (rows : List (List Float)) → row_lines i (map (map low_bits) rows) ≡ row_lines i (map (map bits_of) rows)
unfolding row_lines row_line
rows_low i [] = refl
rows_low i (row ∷ rows) = rw (texts_low row, rows_low (i + 1) rows)

listing_same : (a a' b b' s s' : ℕ) (rows rows' : List (List ℕ)) → bits_text a ≡ bits_text a' → bits_text b ≡ bits_text b' → s ≡ s' → row_lines 0 rows ≡ row_lines 0 rows'
    → listing a b s rows ≡ listing a' b' s' rows'
unfolding listing summary_line
listing_same a a' b b' s s' rows rows' ea eb es er = rw (ea, eb, es, er)

-- ---- a fit's answer

-- the bytes of the summary
module _ (v : Summary) (summary : List ℕ) where
  abbrev behind : List ℕ
  behind = drop (0 + length (summary_bytes v)) summary

  bandwidth_low : load_of (placed summary 0 (summary_bytes v)) 0 ≡ low_bits v.bandwidth
  unfolding placed summary_bytes
  bandwidth_low = ap (λ (l : List ℕ). load_of l 0) (append_assoc (bytes_of (bits_of v.bandwidth)) _ behind) ∙ load_here (bits_of v.bandwidth) _

  aicc_low : load_of (placed summary 0 (summary_bytes v)) 8 ≡ low_bits v.aicc
  unfolding placed summary_bytes
  aicc_low =
      let two = bytes_of (bits_of v.aicc) in
      let three = bytes_of v.solves in
      ap (λ (l : List ℕ). load_of l 8) (append_assoc (bytes_of (bits_of v.bandwidth)) (two ++ three) behind)
      ∙ load_behind (bits_of v.bandwidth) ((two ++ three) ++ behind) 0
      ∙ ap (λ (l : List ℕ). load_of l 0) (append_assoc two three behind)
      ∙ load_here (bits_of v.aicc) (three ++ behind)

rows_text : (w : List Float) (out : List ℕ) (width n : ℕ) → n * width ≤ length w → row_lines 0 (rows_of (placed out 0 (real_bytes w)) width n) ≡ row_lines 0 (map (map bits_of) (rows_in w width n))
unfolding placed
rows_text w out width n h = ap (row_lines 0) (rows_real w (drop (0 + length (real_bytes w)) out) width n h) ∙ rows_low 0 (rows_in w width n)

module _ (n width : ℕ) (w : List Float) (out summary : List ℕ) (long : length w ≡ n * width) where
  -- of a fit that was made, by the refusal that it met
  made_text : (number : Option Refusal) (v : Summary) (rows : ℕ) → v.solves ≤ 52736 → (number ≡ None → rows ≡ n)
      → answer_text (placed_rows (number_at number) (take (rows * width) w) v out summary) n width ≡ finish_text number v (rows_in w width n)
  unfolding placed_rows
  made_text None v rows few whole =
      let e : take (rows * width) w ≡ w = ap (λ (k : ℕ). take (k * width) w) (whole refl) ∙ take_all (n * width) w (omega arith) in
      sym (listing_text (placed_rows 0 (take (rows * width) w) v out summary) n width (omega arith))
      ∙ listing_same _ _ _ _ _ _ _ _ (ap bits_text (bandwidth_low v summary) ∙ bits_low (bits_of v.bandwidth)) (ap bits_text (aicc_low v summary) ∙ bits_low (bits_of v.aicc)) (summary_solves summary v (omega (arith, few)))
      (ap (λ (l : List Float). row_lines 0 (rows_of (placed out 0 (real_bytes l)) width n)) e ∙ rows_text w out width n (omega arith))
  made_text (Some r) v rows few whole = sym (refused_text_lem (placed_rows (refusal_number r) (take (rows * width) w) v out summary) n width (numbered r).some)

  -- the text of an answer's bytes is that of the answer
  pub answer_text_lem : (a : Result Fit Refusal) (room : ℕ) → IfOk a (λ f. Made n room f) → answer_text (answer_bytes a (take (fit_rows a * width) w) out summary) n width ≡ fit_text a (rows_in w width n)
  answer_text_lem (Ok f) room h = made_text f.finish.refusal f.finish.summary f.rows h.few h.whole
  answer_text_lem (Err r) room h = sym (refused_text_lem (answer_bytes (Err r) (take (0 * width) w) out summary) n width (numbered r).some)
