-- The input checks of 01's 'Refusals from the input' and 02's 26, as ordered lists: a further refusal is one entry. Definitions only.
use Rattle.std.specs.Prelude.{ℕ, ◌+◌, ◌*◌, ◌/◌, ◌%◌, Bool, true, false, not, ◌&&◌, List, [], ◌∷◌, ◌++◌, eqb, ltb, length, Float}
use Rattle.real.specs.Finite.{all_finite, all_in_unit}
use Rattle.refusal.specs.declared.Refusal.{Refusal}
use Rattle.refusal.specs.declared.Refusal.TheVariants.{TrustOutOfRange, NoCoordinates, OddCoordinates, TooManyObservations, TooManyPredictors, PredictorLength, ResponseLength, TooFewObservations, ResponseNotFinite, CoordinateNotFinite, PredictorNotFinite, OutputTooShort, UnusableDistance, NoDistanceRange}
use Rattle.setup.specs.declared.GwrBandwidth.{GwrBandwidth}
use Rattle.setup.specs.declared.GwrBandwidth.TheVariants.{Fixed, AdaptiveKnn}
use Rattle.setup.specs.declared.GwrOptions.{GwrOptions}
use Rattle.setup.specs.declared.Setup.{Setup}
use Rattle.setup.specs.Data.{Trusts, Data, trust_count}
use Rattle.setup.specs.Data.Trusts.{unasked, each}
use Rattle.setup.specs.Shape.{setup_of}
use Rattle.bounds.specs.Bounds.{greatest_distance, usable_distance}

-- ---- lengths, values and room

-- 01: 1 no coordinates, 2 odd coordinate count, 3 n > 512, 4 p > 7, 5 predictor length not n × p, 6 response length not n, 02: or number of trusts not n, 7 n < p + 1, of the lengths of coordinates, predictors, responses and trusts
unfoldable pub shape_tests : ℕ → ℕ → ℕ → ℕ → ℕ → List (Bool × Refusal)
shape_tests coords x y trusts p =
    (eqb coords 0, NoCoordinates)
    ∷ (eqb (coords % 2) 1, OddCoordinates)
    ∷ (ltb 512 (coords / 2), TooManyObservations)
    ∷ (ltb 7 p, TooManyPredictors)
    ∷ (not (eqb x (coords / 2 * p)), PredictorLength)
    ∷ (not (eqb y (coords / 2)), ResponseLength)
    ∷ (not (eqb trusts (coords / 2)), ResponseLength)
    ∷ (ltb (coords / 2) (p + 1), TooFewObservations)
    ∷ []

-- every trust that is asked for lies from 0 to 1
abbrev pub trusts_fit : Trusts → Bool
trusts_fit unasked = true
trusts_fit (each t) = all_in_unit t

-- 01: 8 response, 9 coordinate, 10 predictor not finite; 02: 26 trust not in 0..1, right after 10
unfoldable pub value_tests : Data → List (Bool × Refusal)
value_tests d =
    (not (all_finite d.responses), ResponseNotFinite)
    ∷ (not (all_finite d.coords), CoordinateNotFinite)
    ∷ (not (all_finite d.predictors), PredictorNotFinite)
    ∷ (not (trusts_fit d.trusts), TrustOutOfRange)
    ∷ []

-- 01: 13 output too short, which has to hold n × (p + 4) numbers
unfoldable pub output_tests : ℕ → ℕ → ℕ → List (Bool × Refusal)
output_tests n p out = (ltb out (n * (p + 4)), OutputTooShort) ∷ []

-- the same of a job's sizes
abbrev pub room_tests : Setup → ℕ → List (Bool × Refusal)
room_tests u out = output_tests u.n u.p out

-- 01's order: 1 to 7, 8 to 10, 26, 13, of p predictors and the output's length
unfoldable pub input_tests : Data → ℕ → ℕ → List (Bool × Refusal)
input_tests d p out =
    shape_tests (length d.coords) (length d.predictors) (length d.responses) (trust_count d) p
    ++ (value_tests d ++ output_tests (length d.coords / 2) p out)

-- what 21 denies: the lengths that the job's sizes say
unfoldable pub lengths_fit : Setup → Data → Bool
lengths_fit u d =
    eqb (length d.coords) (2 * u.n) && (eqb (length d.predictors) (u.n * u.p) && (eqb (length d.responses) u.n && eqb (trust_count d) u.n))

-- ---- options

-- not searched, a distance, and not usable
unfoldable pub unusable_given : Bool → GwrBandwidth → Bool
unusable_given true w = false
unusable_given false (Fixed b) = not (usable_distance b)
unusable_given false (AdaptiveKnn k) = false

-- searched, and a distance
unfoldable pub seeks_distance : Bool → GwrBandwidth → Bool
seeks_distance true (Fixed b) = true
seeks_distance true (AdaptiveKnn k) = false
seeks_distance false w = false

-- searched, a distance, and hi not usable; the distance given is not looked at
unfoldable pub nothing_between : Bool → GwrBandwidth → Float → Bool
nothing_between t w hi = seeks_distance t w && not (usable_distance hi)

-- 01: 11 unsearched distance not finite or ≤ 0, 12 searched distance with hi zero or infinite
unfoldable pub option_tests_at : GwrOptions → Float → List (Bool × Refusal)
option_tests_at o hi =
    (unusable_given o.optimize_bandwidth o.bandwidth, UnusableDistance)
    ∷ (nothing_between o.optimize_bandwidth o.bandwidth hi, NoDistanceRange)
    ∷ []

-- hi is the greatest pair distance
abbrev pub option_tests : Setup → Data → List (Bool × Refusal)
option_tests u d = option_tests_at u.options (greatest_distance d.coords u.n)

-- ---- the whole

-- 01's order: 1 to 7, 8 to 10, 26, 13, 11, 12
abbrev pub fit_tests : Data → ℕ → GwrOptions → ℕ → List (Bool × Refusal)
fit_tests d p o out = input_tests d p out ++ option_tests (setup_of d p o) d
