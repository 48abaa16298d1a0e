-- Every refusal's number is from 1 to 99: the one place that goes through all of them, so that one more asks for a line here and not of
-- those who only need the bound.
use Prim.Native.Nat.{ℕ, ◌≤◌}
use native.Mathlib.Omega.{arith}
use Rattle.refusal.specs.Numbers.{refusal_number}
use Rattle.refusal.specs.declared.Refusal.{Refusal}
use Rattle.refusal.specs.declared.Refusal.TheVariants.{NoCoordinates, OddCoordinates, TooManyObservations, TooManyPredictors, PredictorLength, ResponseLength, TooFewObservations, ResponseNotFinite, CoordinateNotFinite, PredictorNotFinite, UnusableDistance, NoDistanceRange, OutputTooShort, TrustOutOfRange, Singular, InverseNotFinite, CoefficientNotFinite, DeviationNotFinite, WeightSumNotPositive, UnknownNumber, UnfitRecord, AlreadyEnded, LengthsDiffer}

-- beyond the numbers of today, as room for more refusals
abbrev pub most_number : ℕ
most_number = 99

pub record Numbered (n : ℕ) : Type 0 where
  pub some : 1 ≤ n
  pub most : n ≤ most_number

pub numbered : (r : Refusal) → Numbered (refusal_number r)
numbered NoCoordinates = record { some = omega arith; most = omega arith }
numbered OddCoordinates = record { some = omega arith; most = omega arith }
numbered TooManyObservations = record { some = omega arith; most = omega arith }
numbered TooManyPredictors = record { some = omega arith; most = omega arith }
numbered PredictorLength = record { some = omega arith; most = omega arith }
numbered ResponseLength = record { some = omega arith; most = omega arith }
numbered TooFewObservations = record { some = omega arith; most = omega arith }
numbered ResponseNotFinite = record { some = omega arith; most = omega arith }
numbered CoordinateNotFinite = record { some = omega arith; most = omega arith }
numbered PredictorNotFinite = record { some = omega arith; most = omega arith }
numbered UnusableDistance = record { some = omega arith; most = omega arith }
numbered NoDistanceRange = record { some = omega arith; most = omega arith }
numbered OutputTooShort = record { some = omega arith; most = omega arith }
numbered Singular = record { some = omega arith; most = omega arith }
numbered InverseNotFinite = record { some = omega arith; most = omega arith }
numbered CoefficientNotFinite = record { some = omega arith; most = omega arith }
numbered DeviationNotFinite = record { some = omega arith; most = omega arith }
numbered UnknownNumber = record { some = omega arith; most = omega arith }
numbered UnfitRecord = record { some = omega arith; most = omega arith }
numbered AlreadyEnded = record { some = omega arith; most = omega arith }
numbered LengthsDiffer = record { some = omega arith; most = omega arith }
numbered TrustOutOfRange = record { some = omega arith; most = omega arith }
numbered WeightSumNotPositive = record { some = omega arith; most = omega arith }
