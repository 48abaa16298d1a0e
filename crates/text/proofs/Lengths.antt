-- How long the parts of a listing are, and the loops' one part more.
use mathlib.Core.Path.{◌≡◌, refl, sym, ap, ◌∙◌}
use mathlib.Core.Bool.{Bool, true, false, cond}
use mathlib.Core.List.{List, [], ◌∷◌, ◌++◌, append_assoc, append-nil}
use Prim.Native.Nat.{ℕ, zero, suc, ◌+◌, ◌*◌, ◌/◌, ◌%◌, ◌≤◌}
use native.Mathlib.Numerals.{add-one}
use native.Mathlib.Nat.{add-zero}
use native.Mathlib.Omega.{arith}
use lib.Dec.{ltb}
use lib.ListN.{length, length-append}
use Rattle.wire.specs.Wire.{load_of}
use Rattle.text.specs.Listing.{digit_of, hex_in, decimal_in, bits_text, count_text, bits_texts, row_line, row_lines, loads, rows_of}

pub length_hex_in : (n v : ℕ) → length (hex_in n v) ≡ n
unfolding hex_in
length_hex_in zero v = refl
length_hex_in (suc n) v = length-append (hex_in n (v / 16)) (digit_of (v % 16) ∷ []) ∙ omega (arith, length_hex_in n (v / 16))

pub length_bits_text : (v : ℕ) → length (bits_text v) ≡ 17
unfolding bits_text
length_bits_text v = ap suc (length_hex_in 16 v)

pub length_decimal_in : (n v : ℕ) → length (decimal_in n v) ≤ n
unfolding decimal_in
length_decimal_in zero v = omega arith
length_decimal_in (suc n) v = either (ltb v 10) (decimal_in n (v / 10)) (digit_of v) (digit_of (v % 10)) (length_decimal_in n (v / 10))
  where
    either : (b : Bool) (l : List ℕ) (x y : ℕ) → length l ≤ n → length (cond b (x ∷ []) (l ++ (y ∷ []))) ≤ suc n
    either true l x y h = omega arith
    either false l x y h = omega (arith, length-append l (y ∷ []))

pub length_count_text : (v : ℕ) → length (count_text v) ≤ 7
unfolding count_text
length_count_text v = omega (arith, length_decimal_in 6 v)

pub length_bits_texts : (vs : List ℕ) → length (bits_texts vs) ≡ 17 * length vs
unfolding bits_texts
length_bits_texts [] = refl
length_bits_texts (v ∷ vs) = length-append (bits_text v) (bits_texts vs) ∙ omega (arith, length_bits_text v, length_bits_texts vs)

pub length_loads : (s : List ℕ) (first n : ℕ) → length (loads s first n) ≡ n
unfolding loads
length_loads s first zero = refl
length_loads s first (suc n) = length-append (loads s first n) (load_of s (8 * (first + n)) ∷ []) ∙ omega (arith, length_loads s first n)

pub length_rows_of : (s : List ℕ) (width n : ℕ) → length (rows_of s width n) ≡ n
unfolding rows_of
length_rows_of s width zero = refl
length_rows_of s width (suc n) = length-append (rows_of s width n) (loads s (n * width) width ∷ []) ∙ omega (arith, length_rows_of s width n)

-- one number more
bits_texts_append : (vs ws : List ℕ) → bits_texts (vs ++ ws) ≡ bits_texts vs ++ bits_texts ws
unfolding bits_texts
bits_texts_append [] ws = refl
bits_texts_append (v ∷ vs) ws = ap (λ (l : List ℕ). bits_text v ++ l) (bits_texts_append vs ws) ∙ sym (append_assoc (bits_text v) (bits_texts vs) (bits_texts ws))

pub bits_more : (s : List ℕ) (first k : ℕ) → bits_texts (loads s first k) ++ bits_text (load_of s (8 * (first + k))) ≡ bits_texts (loads s first (k + 1))
unfolding bits_texts loads
bits_more s first k =
    ap (λ (l : List ℕ). bits_texts (loads s first k) ++ l) (sym (append-nil (bits_text (load_of s (8 * (first + k))))))
    ∙ sym (bits_texts_append (loads s first k) (load_of s (8 * (first + k)) ∷ []))
    ∙ ap (λ (n : ℕ). bits_texts (loads s first n)) (sym (add-one k))

-- one row more
row_lines_snoc : (i : ℕ) (rows : List (List ℕ)) (row : List ℕ) → row_lines i (rows ++ (row ∷ [])) ≡ row_lines i rows ++ row_line (i + length rows) row
unfolding row_lines
row_lines_snoc i [] row = append-nil (row_line i row) ∙ ap (λ (k : ℕ). row_line k row) (sym (add-zero i))
row_lines_snoc i (r ∷ rows) row =
    let n : i + 1 + length rows ≡ i + suc (length rows) = omega arith in
    ap (λ (l : List ℕ). row_line i r ++ l) (row_lines_snoc (i + 1) rows row ∙ ap (λ (k : ℕ). row_lines (i + 1) rows ++ row_line k row) n)
    ∙ sym (append_assoc (row_line i r) (row_lines (i + 1) rows) (row_line (i + suc (length rows)) row))

pub rows_more : (s : List ℕ) (width i : ℕ) → row_lines 0 (rows_of s width i) ++ row_line i (loads s (i * width) width) ≡ row_lines 0 (rows_of s width (i + 1))
unfolding rows_of
rows_more s width i =
    let n : i ≡ 0 + length (rows_of s width i) = omega (arith, length_rows_of s width i) in
    ap (λ (k : ℕ). row_lines 0 (rows_of s width i) ++ row_line k (loads s (i * width) width)) n
    ∙ sym (row_lines_snoc 0 (rows_of s width i) (loads s (i * width) width))
    ∙ ap (λ (k : ℕ). row_lines 0 (rows_of s width k)) (sym (add-one i))
