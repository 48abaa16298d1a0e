-- The smallest job that the two criteria tell apart: one pantry, whose own leverage is 1, so that D is -2. Definitions only; proofs/Guarded proves it, by computing.
use Rattle.std.specs.Prelude.{false, [], ◌∷◌, replicate, Result}
use Rattle.std.specs.Float.{inf, binary64}
use Rattle.std.specs.Float.Ieee.{of_bits}
use Rattle.real.specs.Reals.{zero64}
use Rattle.setup.specs.declared.GwrCriterion.{GwrCriterion}
use Rattle.setup.specs.declared.GwrCriterion.TheVariants.{Unguarded, Guarded}
use Rattle.setup.specs.Data.{Data, data_of}
use Rattle.setup.specs.Options.{judged_by}
use Rattle.refusal.specs.declared.Refusal.{Refusal}
use Rattle.gwr.specs.declared.Fit.{Fit}
use Rattle.gwr.specs.Fit.{gwr_fit}
use Rattle.examples.specs.Examples.{whole_number, at_distance, Scores}

abbrev pub one_data : Data
one_data = data_of (whole_number 0 ∷ whole_number 0 ∷ []) [] (whole_number 5 ∷ [])

abbrev pub one_answer : GwrCriterion → Result Fit Refusal
one_answer c = (gwr_fit one_data 0 (judged_by c at_distance) (replicate 4 zero64)).0

pub record GuardedExample : Type 0 where
  -- worked as it falls, and +infinity
  pub one_unguarded : Scores (one_answer Unguarded) (of_bits binary64 0xC096_1FD1_E108_A3A2)
  pub one_guarded : Scores (one_answer Guarded) (inf false)
