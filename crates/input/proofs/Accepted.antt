-- What 1 to 10, 26 and 13 leave of an input: sizes and lengths in range, every number finite, every trust from 0 to 1, and room.
use mathlib.Core.Path.{◌≡◌}
use mathlib.Core.Bool.{Bool, true}
use mathlib.Core.List.{List}
use Prim.Native.Nat.{ℕ, ◌+◌, ◌*◌, ◌/◌, ◌%◌, ◌≤◌}
use native.Mathlib.Omega.{arith}
use borrow.Author.Tests.{eqb-true, eqb-false, ltb-false, not-false}
use lib.ListN.{length}
use Rattle.real.specs.Finite.{all_finite}
use Rattle.refusal.specs.declared.Refusal.{Refusal}
use Rattle.refusal.specs.declared.Refusal.TheVariants.{OddCoordinates, TooManyObservations, TooManyPredictors, PredictorLength, ResponseLength, TooFewObservations, ResponseNotFinite, CoordinateNotFinite, PredictorNotFinite, OutputTooShort, TrustOutOfRange}
use Rattle.setup.specs.declared.GwrOptions.{GwrOptions}
use Rattle.setup.specs.Data.{Data, trust_count}
use Rattle.setup.specs.Shape.{setup_of, Shaped}
use Rattle.checks.specs.Judge.{NoneOf}
use Rattle.checks.proofs.Judge.{here, later, none_among, none_append}
use Rattle.input.specs.Checks.{trusts_fit, shape_tests, value_tests, output_tests, input_tests}

-- sizes and lengths that refusals 1 to 7 let pass
module _ (coords x y trusts p : ℕ) where
  pub record Counts : Type 0 where
    pub even : coords ≡ 2 * (coords / 2)
    pub few : coords / 2 ≤ 512
    pub narrow : p ≤ 7
    pub rows : x ≡ coords / 2 * p
    pub answers : y ≡ coords / 2
    pub trusted : trusts ≡ coords / 2
    pub enough : p + 1 ≤ coords / 2

  pub shape_counts : NoneOf (shape_tests coords x y trusts p) → Counts
  unfolding shape_tests
  shape_counts h =
      let odd : coords % 2 ≡ 1 → ⊥ = eqb-false _ _ (none_among OddCoordinates h (search (here, later) depth 20)) in
      record {
        even = omega arith;
        few = ltb-false _ _ (none_among TooManyObservations h (search (here, later) depth 20));
        narrow = ltb-false _ _ (none_among TooManyPredictors h (search (here, later) depth 20));
        rows = eqb-true _ _ (not-false _ (none_among PredictorLength h (search (here, later) depth 20)));
        answers = eqb-true _ _ (not-false _ (none_among ResponseLength h (search (here, later) depth 20)));
        trusted = eqb-true _ _ (not-false _ (none_among ResponseLength h (later (later (later (later (later (later here))))))));
        enough = ltb-false _ _ (none_among TooFewObservations h (search (here, later) depth 20));
      }

-- what 1 to 10, 26 and 13 leave of an input
pub record Accepted (d : Data) (p : ℕ) (o : GwrOptions) (out : ℕ) : Type 0 where
  pub shaped : Shaped (setup_of d p o) d
  pub responses_finite : all_finite d.responses ≡ true
  pub places_finite : all_finite d.coords ≡ true
  pub rows_finite : all_finite d.predictors ≡ true
  pub trusts_fit_lem : trusts_fit d.trusts ≡ true
  pub room : length d.coords / 2 * (p + 4) ≤ out

module _ (d : Data) (p out : ℕ) where
  abbrev shape : List (Bool × Refusal)
  shape = shape_tests (length d.coords) (length d.predictors) (length d.responses) (trust_count d) p

  pub input_accepted : (o : GwrOptions) → NoneOf (input_tests d p out) → Accepted d p o out
  unfolding input_tests shape_tests value_tests output_tests
  input_accepted o h =
      let k = shape_counts _ _ _ _ _ (none_append shape _ h).0 in
      record {
        shaped = record { sized = record { few = k.few; narrow = k.narrow; enough = k.enough }; places = k.even; rows = k.rows; answers = k.answers; trusted = k.trusted };
        responses_finite = not-false _ (none_among ResponseNotFinite h (search (here, later) depth 20));
        places_finite = not-false _ (none_among CoordinateNotFinite h (search (here, later) depth 20));
        rows_finite = not-false _ (none_among PredictorNotFinite h (search (here, later) depth 20));
        trusts_fit_lem = not-false _ (none_among TrustOutOfRange h (search (here, later) depth 20));
        room = ltb-false _ _ (none_among OutputTooShort h (search (here, later) depth 20));
      }
