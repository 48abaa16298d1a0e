-- The number of each refusal, as the lists of documents 01 and 02 give it. Definitions only.
use Rattle.std.specs.Prelude.{ℕ}
use Rattle.refusal.specs.declared.Refusal.{Refusal}
use Rattle.refusal.specs.declared.Refusal.TheVariants.{NoCoordinates, OddCoordinates, TooManyObservations, TooManyPredictors, PredictorLength, ResponseLength, TooFewObservations, ResponseNotFinite, CoordinateNotFinite, PredictorNotFinite, UnusableDistance, NoDistanceRange, OutputTooShort, TrustOutOfRange, Singular, InverseNotFinite, CoefficientNotFinite, DeviationNotFinite, WeightSumNotPositive, UnknownNumber, UnfitRecord, AlreadyEnded, LengthsDiffer}

abbrev pub refusal_number : Refusal → ℕ
refusal_number NoCoordinates = 1
refusal_number OddCoordinates = 2
refusal_number TooManyObservations = 3
refusal_number TooManyPredictors = 4
refusal_number PredictorLength = 5
refusal_number ResponseLength = 6
refusal_number TooFewObservations = 7
refusal_number ResponseNotFinite = 8
refusal_number CoordinateNotFinite = 9
refusal_number PredictorNotFinite = 10
refusal_number UnusableDistance = 11
refusal_number NoDistanceRange = 12
refusal_number OutputTooShort = 13
refusal_number Singular = 14
refusal_number InverseNotFinite = 15
refusal_number CoefficientNotFinite = 16
refusal_number DeviationNotFinite = 17
refusal_number UnknownNumber = 18
refusal_number UnfitRecord = 19
refusal_number AlreadyEnded = 20
refusal_number LengthsDiffer = 21
refusal_number TrustOutOfRange = 26
refusal_number WeightSumNotPositive = 27
