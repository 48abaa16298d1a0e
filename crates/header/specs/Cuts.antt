-- The parts behind a header: coordinates, predictors, responses, and which of them is cut short. Definitions only.
use Rattle.std.specs.Prelude.{ℕ, ◌+◌, ◌*◌, Bool, List, [], ◌∷◌, ltb}
use Rattle.refusal.specs.declared.Refusal.{Refusal}
use Rattle.refusal.specs.declared.Refusal.TheVariants.{OddCoordinates, PredictorLength, ResponseLength}

-- where the coordinates end, the predictors, and the responses
abbrev pub places_end : ℕ → ℕ
places_end n = 16 * n

abbrev pub predictors_end : ℕ → ℕ → ℕ
predictors_end n p = 16 * n + 8 * (n * p)

abbrev pub responses_end : ℕ → ℕ → ℕ
responses_end n p = 16 * n + 8 * (n * p) + 8 * n

-- 01: the first part cut short gives 2, 5 or 6
unfoldable pub cut_tests : ℕ → ℕ → ℕ → List (Bool × Refusal)
cut_tests size n p =
    (ltb size (places_end n), OddCoordinates) ∷ (ltb size (predictors_end n p), PredictorLength) ∷ (ltb size (responses_end n p), ResponseLength) ∷ []
