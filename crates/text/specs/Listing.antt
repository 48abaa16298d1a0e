-- The printed listing as a list of bytes. Definitions, and examples at the end.
use Rattle.std.specs.Prelude.{ℕ, zero, suc, ◌+◌, ◌*◌, ◌/◌, ◌%◌, ◌≡◌, cond, List, [], ◌∷◌, ◌++◌, ltb, length}
use Rattle.std.proofs.Math.Path.{refl}
use Rattle.wire.specs.Wire.{load_of, placed}

-- the digit of a value below 16: 0 to 9, then A to F
unfoldable pub digit_of : ℕ → ℕ
digit_of v = cond (ltb v 10) (48 + v) (55 + v)

-- the n lowest hexadecimal digits of v, the highest of them first
unfoldable pub hex_in : ℕ → ℕ → List ℕ
hex_in zero v = []
hex_in (suc n) v = hex_in n (v / 16) ++ (digit_of (v % 16) ∷ [])

-- the decimal digits of a v below 10 ^ n, with no zero in front
unfoldable pub decimal_in : ℕ → ℕ → List ℕ
decimal_in zero v = []
decimal_in (suc n) v = cond (ltb v 10) (digit_of v ∷ []) (decimal_in n (v / 10) ++ (digit_of (v % 10) ∷ []))

-- a space, and a number by its 16 hexadecimal digits, or in decimal where it is below 1000000
unfoldable pub bits_text : ℕ → List ℕ
bits_text v = 32 ∷ hex_in 16 v

unfoldable pub count_text : ℕ → List ℕ
count_text v = 32 ∷ decimal_in 6 v

-- several numbers, each after a space
unfoldable pub bits_texts : List ℕ → List ℕ
bits_texts [] = []
bits_texts (v ∷ vs) = bits_text v ++ bits_texts vs

-- "fit" and "row"
abbrev pub fit_word : List ℕ
fit_word = 102 ∷ 105 ∷ 116 ∷ []

abbrev pub row_word : List ℕ
row_word = 114 ∷ 111 ∷ 119 ∷ []

abbrev pub newline : List ℕ
newline = 10 ∷ []

-- a refusal's line: fit, its number
unfoldable pub refused_line : ℕ → List ℕ
refused_line number = fit_word ++ count_text number ++ newline

-- a fit's line: fit, 0, the bandwidth's bits, those of AICc, how many solves
unfoldable pub summary_line : ℕ → ℕ → ℕ → List ℕ
summary_line bandwidth aicc solves = fit_word ++ count_text 0 ++ bits_text bandwidth ++ bits_text aicc ++ count_text solves ++ newline

-- a row's line: row, its number, the bits of what it holds
unfoldable pub row_line : ℕ → List ℕ → List ℕ
row_line i row = row_word ++ count_text i ++ bits_texts row ++ newline

-- the lines of rows, numbered from i on
unfoldable pub row_lines : ℕ → List (List ℕ) → List ℕ
row_lines i [] = []
row_lines i (row ∷ rows) = row_line i row ++ row_lines (i + 1) rows

-- the whole text of a fit
unfoldable pub listing : ℕ → ℕ → ℕ → List (List ℕ) → List ℕ
listing bandwidth aicc solves rows = summary_line bandwidth aicc solves ++ row_lines 0 rows

-- ---- what the code's parts need: the numbers as bytes hold them, and what is written where

-- n numbers of s, from number `first` on
unfoldable pub loads : List ℕ → ℕ → ℕ → List ℕ
loads s first zero = []
loads s first (suc n) = loads s first n ++ (load_of s (8 * (first + n)) ∷ [])

-- the first n rows of s, of `width` numbers each
unfoldable pub rows_of : List ℕ → ℕ → ℕ → List (List ℕ)
rows_of s width zero = []
rows_of s width (suc n) = rows_of s width n ++ (loads s (n * width) width ∷ [])

-- d is d₀ with the line from `at` on, and the line ends at `end`
pub record WrittenText (d₀ : List ℕ) (at : ℕ) (line d : List ℕ) (end : ℕ) : Type 0 where
  pub is : d ≡ placed d₀ at line
  pub stop : end ≡ at + length line
  pub long : length d ≡ length d₀

-- ---- examples

module _ where
  refusal : refused_line 18 ≡ 102 ∷ 105 ∷ 116 ∷ 32 ∷ 49 ∷ 56 ∷ 10 ∷ []
  unfolding refused_line count_text decimal_in digit_of
  refusal = refl

  counts : decimal_in 6 52736 ≡ 53 ∷ 50 ∷ 55 ∷ 51 ∷ 54 ∷ []
  unfolding decimal_in digit_of
  counts = refl

  none : decimal_in 6 0 ≡ 48 ∷ []
  unfolding decimal_in digit_of
  none = refl

  -- the bits of -1
  minus_one : hex_in 16 0xBFF0_0000_0000_0000 ≡ 66 ∷ 70 ∷ 70 ∷ 48 ∷ 48 ∷ 48 ∷ 48 ∷ 48 ∷ 48 ∷ 48 ∷ 48 ∷ 48 ∷ 48 ∷ 48 ∷ 48 ∷ 48 ∷ []
  unfolding hex_in digit_of
  minus_one = refl
