-- No two refusals share a number, so that a number tells its refusal.
use mathlib.Core.Path.{◌≡◌, refl, sym, ap, ◌∙◌}
use mathlib.Core.Bool.{cond}
use mathlib.Core.List.{List, [], ◌∷◌}
use Prim.Native.Nat.{ℕ}
use lib.Dec.{eqb}
use Rattle.std.specs.Prelude.{Option, Some, None}
use Rattle.std.proofs.lemmas.Option.{same_Some}
use Rattle.refusal.specs.Numbers.{refusal_number}
use Rattle.refusal.specs.declared.Refusal.{Refusal}
use Rattle.refusal.specs.declared.Refusal.TheVariants.{NoCoordinates, OddCoordinates, TooManyObservations, TooManyPredictors, PredictorLength, ResponseLength, TooFewObservations, ResponseNotFinite, CoordinateNotFinite, PredictorNotFinite, UnusableDistance, NoDistanceRange, OutputTooShort, TrustOutOfRange, Singular, InverseNotFinite, CoefficientNotFinite, DeviationNotFinite, WeightSumNotPositive, UnknownNumber, UnfitRecord, AlreadyEnded, LengthsDiffer}

abbrev every_refusal : List Refusal
every_refusal =
    NoCoordinates ∷ OddCoordinates ∷ TooManyObservations ∷ TooManyPredictors ∷ PredictorLength ∷ ResponseLength ∷ TooFewObservations
    ∷ ResponseNotFinite ∷ CoordinateNotFinite ∷ PredictorNotFinite ∷ UnusableDistance ∷ NoDistanceRange ∷ OutputTooShort ∷ Singular
    ∷ InverseNotFinite ∷ CoefficientNotFinite ∷ DeviationNotFinite ∷ UnknownNumber ∷ UnfitRecord ∷ AlreadyEnded ∷ LengthsDiffer
    ∷ TrustOutOfRange ∷ WeightSumNotPositive ∷ []

-- the first of a list that has a number
abbrev numbered_among : ℕ → List Refusal → Option Refusal
numbered_among number [] = None
numbered_among number (r ∷ l) = cond (eqb (refusal_number r) number) (Some r) (numbered_among number l)

-- the refusal of a number
abbrev pub refusal_of : ℕ → Option Refusal
refusal_of number = numbered_among number every_refusal

pub refusal_told : (r : Refusal) → refusal_of (refusal_number r) ≡ Some r
refusal_told NoCoordinates = refl
refusal_told OddCoordinates = refl
refusal_told TooManyObservations = refl
refusal_told TooManyPredictors = refl
refusal_told PredictorLength = refl
refusal_told ResponseLength = refl
refusal_told TooFewObservations = refl
refusal_told ResponseNotFinite = refl
refusal_told CoordinateNotFinite = refl
refusal_told PredictorNotFinite = refl
refusal_told UnusableDistance = refl
refusal_told NoDistanceRange = refl
refusal_told OutputTooShort = refl
refusal_told Singular = refl
refusal_told InverseNotFinite = refl
refusal_told CoefficientNotFinite = refl
refusal_told DeviationNotFinite = refl
refusal_told UnknownNumber = refl
refusal_told UnfitRecord = refl
refusal_told AlreadyEnded = refl
refusal_told LengthsDiffer = refl
refusal_told TrustOutOfRange = refl
refusal_told WeightSumNotPositive = refl

-- refusals of one number are one refusal
pub number_tells : (r s : Refusal) → refusal_number r ≡ refusal_number s → r ≡ s
number_tells r s e = same_Some r s (sym (refusal_told r) ∙ ap refusal_of e ∙ refusal_told s)
