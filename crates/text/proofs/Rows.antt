-- The loops over a row's numbers and over the rows.
use mathlib.Core.Path.{◌≡◌}
use mathlib.Core.List.{List, ◌++◌}
use Prim.Native.Nat.{ℕ, ◌+◌, ◌*◌, ◌≤◌, ◌<◌}
use native.Mathlib.Omega.{arith}
use lib.ListN.{length, length-append}
use Rattle.wire.specs.Wire.{load_of}
use Rattle.text.specs.Listing.{bits_text, count_text, bits_texts, row_word, newline, row_line, row_lines, loads, rows_of, WrittenText}
use Rattle.text.proofs.Lines.{start, and_then}
use Rattle.text.proofs.Lengths.{length_count_text, length_bits_texts, length_loads, bits_more, rows_more}
use Rattle.text.proofs.Parts.{bits_end}

-- the first k of the numbers are written
pub record Numbering (d₀ : List ℕ) (at : ℕ) (out : List ℕ) (first count k : ℕ) (d : List ℕ) (to : ℕ) : Type 0 where
  pub most : k ≤ count
  pub reach : to ≡ at + 17 * k
  pub text : WrittenText d₀ at (bits_texts (loads out first k)) d to

module _ {d₀ : List ℕ} {at : ℕ} {out : List ℕ} {first count : ℕ} where
  pub none_yet : Numbering d₀ at out first count 0 d₀ at
  unfolding bits_texts loads
  none_yet = record { most = omega arith; reach = omega arith; text = start }

  pub number_more : {k to : ℕ} {d d' : List ℕ} {to' v : ℕ} → Numbering d₀ at out first count k d to → k < count → at + 17 * count ≤ length d₀ → v ≡ load_of out (8 * (first + k))
      → WrittenText d to (bits_text v) d' to' → Numbering d₀ at out first count (k + 1) d' to'
  number_more {k} {to} {d} {d'} {to'} {v} n h room is w =
      record {
        most = omega arith;
        reach = omega (arith, bits_end v w);
        text = rw (← bits_more out first k, ← is) (and_then n.text w (omega (arith, bits_end v w)));
      }

pub length_row_line : (i : ℕ) (row : List ℕ) → length (row_line i row) ≤ 11 + 17 * length row
unfolding row_line
length_row_line i row =
    rw (length-append (row_word ++ count_text i ++ bits_texts row) newline, length-append (row_word ++ count_text i) (bits_texts row), length-append row_word (count_text i))
    (omega (arith, length_count_text i, length_bits_texts row))

-- the first i rows are written
pub record Listing (d₀ : List ℕ) (at : ℕ) (out : List ℕ) (width n i : ℕ) (d : List ℕ) (to : ℕ) : Type 0 where
  pub most : i ≤ n
  pub reach : to ≤ at + 198 * i
  pub text : WrittenText d₀ at (row_lines 0 (rows_of out width i)) d to

module _ {d₀ : List ℕ} {at : ℕ} {out : List ℕ} {width n : ℕ} where
  pub no_row : Listing d₀ at out width n 0 d₀ at
  unfolding row_lines rows_of
  no_row = record { most = omega arith; reach = omega arith; text = start }

  pub row_more : {i to : ℕ} {d d' : List ℕ} {to' : ℕ} → Listing d₀ at out width n i d to → i < n → at + 198 * n ≤ length d₀ → width ≤ 11
      → WrittenText d to (row_line i (loads out (i * width) width)) d' to' → Listing d₀ at out width n (i + 1) d' to'
  row_more {i} {to} {d} {d'} {to'} l h room narrow w =
      let reach : to' ≤ at + 198 * (i + 1) = omega (arith, length_row_line i (loads out (i * width) width), length_loads out (i * width) width) in
      record {
        most = omega arith;
        reach = reach;
        text = rw (← rows_more out width i) (and_then l.text w (omega arith));
      }
