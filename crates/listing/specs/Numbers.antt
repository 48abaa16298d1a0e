-- Which inputs `gwrprint` refuses, and the text of the fit of the numbers that the others hold. Definitions only.
use Rattle.std.specs.Prelude.{ℕ, zero, suc, ◌+◌, ◌*◌, Bool, List, [], ◌∷◌, ◌++◌, map, ltb, length, take, drop, replicate, Float, Result, Ok, Err, Option, Some, None}
use Rattle.real.specs.Reals.{zero64}
use Rattle.wire.specs.Wire.{bits_of, reals}
use Rattle.text.specs.Listing.{listing}
use Rattle.refusal.specs.declared.Refusal.{Refusal}
use Rattle.refusal.specs.declared.Refusal.TheVariants.{TooFewObservations}
use Rattle.setup.specs.declared.GwrOptions.{GwrOptions}
use Rattle.setup.specs.Data.{Data, trusting}
use Rattle.setup.specs.Shape.{setup_of}
use Rattle.input.specs.Checks.{value_tests, option_tests}
use Rattle.criterion.specs.declared.Summary.{Summary}
use Rattle.gwr.specs.declared.Fit.{Fit}
use Rattle.gwr.specs.Fit.{gwr_fit}
use Rattle.request.specs.Options.{options_of, named}
use Rattle.header.specs.declared.Head.{Head}
use Rattle.header.specs.Headers.{head_of, header_tests}
use Rattle.listing.specs.Jobs.{refused_text}
use Rattle.header.specs.Cuts.{places_end, predictors_end, cut_tests}

-- 01: then coordinates, predictors, responses, 8 bytes each; `parts` is what stands behind the header. 02: every trust is set to 1
abbrev pub data_in : Head → List ℕ → Data
data_in h parts =
    trusting (reals parts (2 * h.n)) (reals (drop (places_end h.n) parts) (h.n * h.p)) (reals (drop (predictors_end h.n h.p) parts) h.n)

-- the options that a header names; where 18 is owed, any
abbrev pub options_in : Head → GwrOptions
options_in h = named (options_of h.kernel h.kind h.bandwidth)

-- ---- which inputs are refused

-- 7, 8 to 10, 11, 12 of the numbers; 26 never holds. 13 is not among them: the program lends room for 512 rows
unfoldable pub data_tests : Head → List ℕ → List (Bool × Refusal)
data_tests h parts =
    let d = data_in h parts in
    (ltb h.n (h.p + 1), TooFewObservations) ∷ (value_tests d ++ option_tests (setup_of d h.p (options_in h)) d)

-- 01: 'A short header gives 1; 18, n of 0 or over 512 and p over 7 are refused before reading on; then the first part cut short gives 2, 5 or 6', and then as the fit refuses
unfoldable pub print_tests : List ℕ → List (Bool × Refusal)
print_tests input =
    let h = head_of input in
    let parts = drop 40 input in
    header_tests input ++ (cut_tests (length parts) h.n h.p ++ data_tests h parts)

-- ---- what is printed of the others

-- the fit of the numbers that stand behind a header, with an output of n rows
abbrev pub fit_in : Head → List ℕ → Result Fit Refusal × List Float
fit_in h parts = gwr_fit (data_in h parts) h.p (options_in h) (replicate (h.n * (h.p + 4)) zero64)

-- the first n rows of an output, of `width` numbers each
unfoldable pub rows_in : List Float → ℕ → ℕ → List (List Float)
rows_in out width zero = []
rows_in out width (suc n) = rows_in out width n ++ (take width (drop (n * width) out) ∷ [])

-- 01: first line: refusal (0 none), bandwidth, AICc, solves; a row: location, then its output row; reals as hexadecimal bits; a refusal prints `fit` and its number only
abbrev pub finish_text : Option Refusal → Summary → List (List Float) → List ℕ
finish_text None v rows = listing (bits_of v.bandwidth) (bits_of v.aicc) v.solves (map (map bits_of) rows)
finish_text (Some r) v rows = refused_text r

abbrev pub fit_text : Result Fit Refusal → List (List Float) → List ℕ
fit_text (Ok f) rows = finish_text f.finish.refusal f.finish.summary rows
fit_text (Err r) rows = refused_text r

-- the text of that fit
abbrev pub text_of_fit : Head → List ℕ → List ℕ
text_of_fit h parts = let f = fit_in h parts in fit_text f.0 (rows_in f.1 (h.p + 4) h.n)
