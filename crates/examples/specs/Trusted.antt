-- One pantry by its trust: fitted, 14 where its weight is below the least pivot, 27 where it weighs nothing, 26 where the trust is out of range. Definitions only; proofs/Trusted proves it, by computing.
use Rattle.std.specs.Prelude.{◌≡◌, true, false, [], ◌∷◌, pos, negsuc, replicate, Float, Result, Ok, Err, Some}
use Rattle.std.specs.Float.{nan, fin, binary64}
use Rattle.std.specs.Float.Ieee.{of_bits}
use Rattle.real.specs.Reals.{zero64}
use Rattle.refusal.specs.declared.Refusal.TheVariants.{TrustOutOfRange, Singular, WeightSumNotPositive}
use Rattle.setup.specs.Data.{trusted_data}
use Rattle.criterion.specs.Aicc.{failed_summary}
use Rattle.refusal.specs.declared.Refusal.{Refusal}
use Rattle.gwr.specs.declared.Fit.{Fit}
use Rattle.gwr.specs.Fit.{gwr_fit}
use Rattle.examples.specs.Examples.{whole_number, at_distance, Scores}

-- its answer, with this trust
abbrev pub trusted_answer : Float → Result Fit Refusal
trusted_answer t = (gwr_fit (trusted_data (whole_number 0 ∷ whole_number 0 ∷ []) [] (whole_number 5 ∷ []) (t ∷ [])) 0 at_distance (replicate 4 zero64)).0

pub record TrustedExample : Type 0 where
  -- a half weighs as much as 1 does, one pantry being all there is
  pub half : Scores (trusted_answer (fin false 1 (negsuc 0))) (of_bits binary64 0xC096_1FD1_E108_A3A2)
  -- 2^-44 is below 1e-12
  pub tiny : trusted_answer (fin false 1 (negsuc 43)) ≡ Ok (record { finish = record { refusal = Some Singular; summary = failed_summary 1 }; rows = 0 })
  -- zero of either sign
  pub nothing : trusted_answer (fin false 0 (pos 0)) ≡ Ok (record { finish = record { refusal = Some WeightSumNotPositive; summary = failed_summary 1 }; rows = 0 })
  pub minus_nothing : trusted_answer (fin true 0 (pos 0)) ≡ Ok (record { finish = record { refusal = Some WeightSumNotPositive; summary = failed_summary 1 }; rows = 0 })
  -- NaN, and 2
  pub unknown : trusted_answer nan ≡ Err TrustOutOfRange
  pub too_much : trusted_answer (fin false 1 (pos 1)) ≡ Err TrustOutOfRange
