-- The parts of a line: where each ends, and a space before a number.
use mathlib.Core.Path.{◌≡◌, refl, subst}
use mathlib.Core.List.{List, [], ◌∷◌, ◌++◌}
use Prim.Native.Nat.{ℕ, ◌+◌, ◌*◌, ◌≤◌}
use native.Mathlib.Omega.{arith}
use lib.ListN.{length, length-append}
use Rattle.text.specs.Listing.{digit_of, hex_in, decimal_in, bits_text, count_text, bits_texts, fit_word, row_word, newline, refused_line, summary_line, row_line, loads, WrittenText}
use Rattle.text.proofs.Lines.{and_then}
use Rattle.text.proofs.Lengths.{length_hex_in, length_decimal_in, length_bits_text, length_count_text, length_bits_texts, length_loads}

module _ (v : ℕ) {d₀ : List ℕ} {at : ℕ} {d : List ℕ} {e : ℕ} where
  pub bits_end : WrittenText d₀ at (bits_text v) d e → e ≡ at + 17
  bits_end w = omega (arith, length_bits_text v)

  pub count_end : WrittenText d₀ at (count_text v) d e → e ≤ at + 7
  count_end w = omega (arith, length_count_text v)

  pub numbers_end : (out : List ℕ) (first : ℕ) → WrittenText d₀ at (bits_texts (loads out first v)) d e → e ≡ at + 17 * v
  numbers_end out first w = omega (arith, w.stop, length_bits_texts (loads out first v), length_loads out first v)

  pub bits_after_space : {d' : List ℕ} {e' : ℕ} → WrittenText d₀ at (32 ∷ []) d e → WrittenText d e (hex_in 16 v) d' e' → at + 17 ≤ length d₀ → WrittenText d₀ at (bits_text v) d' e'
  unfolding bits_text
  bits_after_space s w h = and_then s w (omega (arith, s.stop, w.stop, length_hex_in 16 v))

  pub count_after_space : {d' : List ℕ} {e' : ℕ} → WrittenText d₀ at (32 ∷ []) d e → WrittenText d e (decimal_in 6 v) d' e' → at + 7 ≤ length d₀ → WrittenText d₀ at (count_text v) d' e'
  unfolding count_text
  count_after_space s w h = and_then s w (omega (arith, s.stop, w.stop, length_decimal_in 6 v))

-- "fit 0", which the code writes as one word
abbrev fit_zero : List ℕ
fit_zero = 102 ∷ 105 ∷ 116 ∷ 32 ∷ 48 ∷ []

fit_zero_lem : fit_zero ≡ fit_word ++ count_text 0
unfolding count_text decimal_in digit_of
fit_zero_lem = refl

-- whole lines: a word, numbers, and the line feed
module _ {d₀ d₁ d₂ d₃ : List ℕ} {at e₁ e₂ e₃ : ℕ} where
  pub refused_line_lem : (v : ℕ) → WrittenText d₀ at fit_word d₁ e₁ → WrittenText d₁ e₁ (count_text v) d₂ e₂ → WrittenText d₂ e₂ newline d₃ e₃ → at + 11 ≤ length d₀ → WrittenText d₀ at (refused_line v) d₃ e₃
  unfolding refused_line
  refused_line_lem v w w₁ w₂ h = and_then (and_then w w₁ (omega (arith, w.stop, count_end v w₁))) w₂ (omega (arith, w.stop, w₂.stop, count_end v w₁))

  pub row_line_lem : {d₄ : List ℕ} {e₄ : ℕ} (v : ℕ) (out : List ℕ) (first width : ℕ) → WrittenText d₀ at row_word d₁ e₁ → WrittenText d₁ e₁ (count_text v) d₂ e₂ → WrittenText d₂ e₂ (bits_texts (loads out first width)) d₃ e₃ → WrittenText d₃ e₃ newline d₄ e₄
      → width ≤ 11 → at + 198 ≤ length d₀ → WrittenText d₀ at (row_line v (loads out first width)) d₄ e₄
  unfolding row_line
  row_line_lem v out first width w w₁ w₂ w₃ narrow h =
      let end : e₃ ≤ at + 197 = omega (arith, w.stop, w₂.stop, count_end v w₁, length_bits_texts (loads out first width), length_loads out first width) in
      and_then (and_then (and_then w w₁ (omega (arith, w.stop, count_end v w₁))) w₂ (omega (arith, end))) w₃ (omega (arith, end, w₃.stop))

  pub summary_line_lem : {d₄ d₅ : List ℕ} {e₄ e₅ : ℕ} {x y z : ℕ} (a b s : ℕ) → WrittenText d₀ at fit_zero d₁ e₁ → WrittenText d₁ e₁ (bits_text a) d₂ e₂ → WrittenText d₂ e₂ (bits_text b) d₃ e₃
      → WrittenText d₃ e₃ (count_text s) d₄ e₄ → WrittenText d₄ e₄ newline d₅ e₅ → a ≡ x → b ≡ y → s ≡ z → at + 47 ≤ length d₀ → WrittenText d₀ at (summary_line x y z) d₅ e₅
  unfolding summary_line
  summary_line_lem {d₅ = d₅} {e₄ = e₄} {e₅ = e₅} a b s w w₁ w₂ w₃ w₄ ea eb es h =
      let end : e₄ ≤ at + 46 = omega (arith, w.stop, bits_end a w₁, bits_end b w₂, count_end s w₃) in
      let end₁ : e₁ ≤ at + 5 = omega (arith, w.stop) in
      let line = and_then (and_then (and_then (and_then w w₁ (omega (arith, end₁, bits_end a w₁))) w₂ (omega (arith, end₁, bits_end a w₁, bits_end b w₂))) w₃ (omega (arith, end))) w₄ (omega (arith, end, w₄.stop)) in
      rw (← ea, ← eb, ← es) (subst (λ (l : List ℕ). WrittenText d₀ at (l ++ bits_text a ++ bits_text b ++ count_text s ++ newline) d₅ e₅) fit_zero_lem line)

length_summary : (a b s : ℕ) → length (summary_line a b s) ≤ 47
unfolding summary_line
length_summary a b s =
    subst (λ (l : List ℕ). length (l ++ bits_text a ++ bits_text b ++ count_text s ++ newline) ≤ 47) fit_zero_lem
    (rw (length-append (fit_zero ++ bits_text a ++ bits_text b ++ count_text s) newline, length-append (fit_zero ++ bits_text a ++ bits_text b) (count_text s), length-append (fit_zero ++ bits_text a) (bits_text b), length-append fit_zero (bits_text a))
    (omega (arith, length_bits_text a, length_bits_text b, length_count_text s)))

pub summary_end : {d₀ d : List ℕ} {at e : ℕ} (a b s : ℕ) → WrittenText d₀ at (summary_line a b s) d e → e ≤ at + 47
summary_end a b s w = omega (arith, length_summary a b s)
