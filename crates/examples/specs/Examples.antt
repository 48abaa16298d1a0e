-- Document 01's eleven examples about the definitions. Definitions only; proofs/Examples proves them, by computing.
use Rattle.std.specs.Prelude.{ℕ, ◌≡◌, true, false, List, [], ◌∷◌, pos, replicate, Float, Result, Ok, Err, Option, Some, None}
use Rattle.std.specs.Float.{inf, binary64}
use Rattle.std.specs.Float.Ieee.{neg, of_bits, of_int}
use Rattle.real.specs.Reals.{zero64}
use Rattle.elementary.specs.Exp.{expv}
use Rattle.elementary.specs.Ln.{lnv}
use Rattle.kernel.specs.declared.GwrKernel.TheVariants.{Bisquare}
use Rattle.kernel.specs.Weight.{weight_of}
use Rattle.setup.specs.declared.GwrBandwidth.TheVariants.{Fixed, AdaptiveKnn}
use Rattle.counts.specs.Count.{resolve_count}
use Rattle.setup.specs.declared.GwrOptions.{GwrOptions}
use Rattle.setup.specs.Data.{Data, data_of}
use Rattle.setup.specs.Options.{unguarded}
use Rattle.refusal.specs.declared.Refusal.{Refusal}
use Rattle.criterion.specs.declared.Summary.{Summary}
use Rattle.gwr.specs.declared.Fit.{Fit}
use Rattle.gwr.specs.Fit.{gwr_fit}

-- a whole number as a real
abbrev pub whole_number : ℕ → Float
whole_number n = of_int binary64 (pos n)

-- ---- the listing's job: four pantries at two places, no predictor, Bisquare, distance 1

abbrev pub four_places : List Float
four_places = whole_number 0 ∷ whole_number 0 ∷ whole_number 0 ∷ whole_number 0 ∷ whole_number 10 ∷ whole_number 10 ∷ whole_number 10 ∷ whole_number 10 ∷ []

abbrev pub four_loads : List Float
four_loads = whole_number 2 ∷ whole_number 4 ∷ whole_number 10 ∷ whole_number 10 ∷ []

abbrev pub four_data : Data
four_data = data_of four_places [] four_loads

abbrev pub at_distance : GwrOptions
at_distance = unguarded Bisquare (Fixed (whole_number 1)) false

-- ---- two pantries, no predictor, a count searched

abbrev pub two_places : List Float
two_places = whole_number 0 ∷ whole_number 0 ∷ whole_number 3 ∷ whole_number 4 ∷ []

abbrev pub two_loads : List Float
two_loads = whole_number 2 ∷ whole_number 4 ∷ []

abbrev pub two_data : Data
two_data = data_of two_places [] two_loads

abbrev pub count_searched : GwrOptions
count_searched = unguarded Bisquare (AdaptiveKnn 0) true

-- P of the summary of a fit that succeeds
abbrev pub Unrefused : Option Refusal → Type 0 → Type 0
Unrefused None P = P
Unrefused (Some r) P = ⊥

abbrev pub Succeeds : Result Fit Refusal → (Summary → Type 0) → Type 0
Succeeds (Ok f) P = Unrefused f.finish.refusal (P f.finish.summary)
Succeeds (Err r) P = ⊥

-- its bandwidth, and its AICc
abbrev pub Reports : Result Fit Refusal → Float → Type 0
Reports a bandwidth = Succeeds a (λ (s : Summary). s.bandwidth ≡ bandwidth)

abbrev pub Scores : Result Fit Refusal → Float → Type 0
Scores a score = Succeeds a (λ (s : Summary). s.aicc ≡ score)

pub record ElevenExamples : Type 0 where
  -- count 0 gives 1 for n = 1, 4 for n = 10, 23 for n = 512; count 100 gives 9 for n = 10; by 02 these are the values for p = 0
  pub one_alone : resolve_count 0 1 0 ≡ 1
  pub among_ten : resolve_count 0 10 0 ≡ 4
  pub among_most : resolve_count 0 512 0 ≡ 23
  pub capped : resolve_count 100 10 0 ≡ 9
  -- Bisquare: d = 1, b = 2 gives 0.5625; d = b gives 0
  pub bisquare_within : weight_of Bisquare (whole_number 1) (whole_number 2) ≡ of_bits binary64 0x3FE2_0000_0000_0000
  pub bisquare_border : weight_of Bisquare (whole_number 2) (whole_number 2) ≡ zero64
  -- exp(0) is 1, exp(-709) is 0
  pub exp_zero : expv (whole_number 0) ≡ whole_number 1
  pub exp_far : expv (neg (whole_number 709)) ≡ whole_number 0
  -- ln(1) is 0
  pub ln_one : lnv (whole_number 1) ≡ whole_number 0
  -- a search with no trial: n = 2 reports 2
  pub two_report_two : Reports (gwr_fit two_data 0 count_searched (replicate 8 zero64)).0 (whole_number 2)
  -- the listing's AICc
  pub listing_aicc : Scores (gwr_fit four_data 0 at_distance (replicate 16 zero64)).0 (inf false)
