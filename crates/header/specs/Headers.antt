-- The header that `gwrprint` reads, and what is refused before reading on. Definitions only.
use Rattle.std.specs.Prelude.{ℕ, ◌+◌, ◌*◌, Bool, List, [], ◌∷◌, eqb, ltb, length, Result, Ok, Err}
use Rattle.wire.specs.Wire.{load_of}
use Rattle.refusal.specs.declared.Refusal.{Refusal}
use Rattle.refusal.specs.declared.Refusal.TheVariants.{NoCoordinates, TooManyObservations, TooManyPredictors, UnknownNumber}
use Rattle.checks.specs.Judge.{judge, ruled}
use Rattle.request.specs.Options.{options_of, is_unknown}
use Rattle.header.specs.declared.Head.{Head}

-- a header's numbers, or what refuses it
abbrev pub Header : Type 0
Header = Result Head Refusal

-- 01: n, p, kernel, kind, bandwidth, 8 bytes each
abbrev pub head_of : List ℕ → Head
head_of s = record { n = load_of s 0; p = load_of s 8; kernel = load_of s 16; kind = load_of s 24; bandwidth = load_of s 32 }

-- 01: n of 0 or over 512 and p over 7 are refused before reading on
unfoldable pub size_tests : ℕ → ℕ → List (Bool × Refusal)
size_tests n p = (eqb n 0, NoCoordinates) ∷ (ltb 512 n, TooManyObservations) ∷ (ltb 7 p, TooManyPredictors) ∷ []

-- 01: a short header gives 1; then 18, then the sizes
unfoldable pub header_tests : List ℕ → List (Bool × Refusal)
header_tests s =
    (ltb (length s) 40, NoCoordinates)
    ∷ (is_unknown (options_of (load_of s 16) (load_of s 24) (load_of s 32)), UnknownNumber)
    ∷ size_tests (load_of s 0) (load_of s 8)

-- ---- what the code's parts give

-- the header of these bytes
unfoldable pub header_of : List ℕ → Header
header_of s = ruled (judge (header_tests s)) Err (Ok (head_of s))

-- how many bytes follow a header: coordinates, predictors and responses
abbrev pub parts_len : ℕ → ℕ → ℕ
parts_len n p = 8 * (n * (p + 3))

-- the header where only its sizes are left to test
unfoldable pub sized_header : List ℕ → Header
sized_header s = ruled (judge (size_tests (load_of s 0) (load_of s 8))) Err (Ok (head_of s))

-- how many bytes the program asks for behind a header; 01: 18, n of 0 or over 512 and p over 7 are refused before reading on
abbrev pub asked : Header → ℕ
asked (Ok h) = parts_len h.n h.p
asked (Err r) = 0
