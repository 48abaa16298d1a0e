-- The byte lengths of a fit call. Definitions only.
use Rattle.std.specs.Prelude.{ℕ, ◌*◌, ◌/◌, ◌%◌, ◌≤◌, ◌≡◌, Bool, not, List, [], ◌∷◌, eqb, ltb}
use Rattle.refusal.specs.declared.Refusal.{Refusal}
use Rattle.refusal.specs.declared.Refusal.TheVariants.{NoCoordinates, OddCoordinates, TooManyObservations, TooManyPredictors, PredictorLength, ResponseLength}

-- 01: 5 predictor bytes not 8·n·p, 6 response bytes not 8·n
unfoldable pub part_tests : ℕ → ℕ → ℕ → ℕ → List (Bool × Refusal)
part_tests x y n p = (not (eqb x (8 * (n * p))), PredictorLength) ∷ (not (eqb y (8 * n)), ResponseLength) ∷ []

-- 01: 1 no coordinates, 2 coordinate bytes not 16 for each observation, 3 n > 512, 4 p > 7, then 5 and 6, of the byte lengths of coordinates, predictors and responses
unfoldable pub byte_tests : ℕ → ℕ → ℕ → ℕ → List (Bool × Refusal)
byte_tests coords x y p =
    (eqb coords 0, NoCoordinates)
    ∷ (ltb 0 (coords % 16), OddCoordinates)
    ∷ (ltb 512 (coords / 16), TooManyObservations)
    ∷ (ltb 7 p, TooManyPredictors)
    ∷ part_tests x y (coords / 16) p

-- the byte lengths that 1 to 6 let pass
pub record ByteLengths (coords x y p : ℕ) : Type 0 where
  pub some : 1 ≤ coords / 16
  pub few : coords / 16 ≤ 512
  pub narrow : p ≤ 7
  pub places : coords ≡ 16 * (coords / 16)
  pub rows : x ≡ 8 * (coords / 16 * p)
  pub responses : y ≡ 8 * (coords / 16)
