-- Three fits with whole numbers are exact, and their coefficients solve the published normal equations, by computing. Assumes nothing.
use mathlib.Core.Path.{◌≡◌, refl, sym, ap, ◌∙◌}
use mathlib.Core.Bool.{cond}
use mathlib.Core.List.{List, [], ◌∷◌}
use Prim.Native.Nat.{ℕ, zero, suc, ◌+◌, ◌<◌}
use native.Mathlib.Omega.{arith}
use native.Mathlib.Nat.{not-suc-le-zero}
use lib.Dec.{eqb}
use lib.ListN.{get_or}
use lib.IntN.{ℤ, pos, ◌*ℤ◌}
use lib.Ieee.{of_int, add, sub, mul, div, lt, eq, of_bits}
use Rattle.real.specs.Fold.{range}
use Rattle.real.specs.Reals.{magnitude}
use Rattle.setup.specs.declared.Setup.{Setup}
use Rattle.setup.specs.Data.{Data}
use Rattle.real.specs.Matrix.{Matrix}
use Rattle.normal.specs.Design.{design_row, design_step}
use Rattle.normal.specs.declared.equations.Equations.{Equations}
use Rattle.normal.specs.Equations.{equations_of, normal_step, observe, observe_step, add_row, cell_step}
use Rattle.normal.specs.Augmented.{mirrored_cell, mirror_step, augmented_row, augment_step, augmented_matrix}
use Rattle.gauss.specs.Gauss.{eliminated, elimination, try_step, gauss_step, reduced, pivot_of, pivot_step, div_row, div_step, less_row, less_step, cleared, clear_step, clear_row, cell}
use Rattle.std.specs.Prelude.{Result, Ok, Err}
use Rattle.refusal.specs.declared.Refusal.{Refusal}
use Rattle.estimate.specs.declared.Coefficients.{Coefficients}
use Rattle.estimate.specs.Inverse.{invert_matrix, inverse_cell, inverse_step, inverse_times, all_step, all_below, inverse_row_finite, inverse_finite}
use Rattle.estimate.specs.Estimate.{coefficients_finite, coefficient_step, coefficients_of, from_inverse, eliminated_of, from_eliminated, coefficients_under, fit_coefficients}
use Rattle.estimate.specs.NormalEquations.{units_of_one, sum_below, cell_at, design_at, moment_at, ExactFit}
use Rattle.estimate.proofs.NormalEquations.{matrix_at, inverse_at, normal_equations}
use Rattle.examples.specs.ExactFits.{Family, family_setup, family_data, ExactlySolved, mean_of_two, line_of_three, plane_of_four}

-- f 0, .., f (m - 1): where two such lists are equal, so are their numbers
unfoldable table : {A : Type 0} → ℕ → (ℕ → A) → List A
table zero f = []
table (suc m) f = f 0 ∷ table m (λ k. f (suc k))

at : {A : Type 0} (m : ℕ) (f : ℕ → A) (d : A) (k : ℕ) → k < m → get_or (table m f) k d ≡ f k
unfolding table
at zero f d k h = absurd (not-suc-le-zero h)
at (suc m) f d zero h = refl
at (suc m) f d (suc k) h = at m (λ j. f (suc j)) d k (omega arith)

each : {A : Type 0} (m : ℕ) (f g : ℕ → A) → table m f ≡ table m g → (k : ℕ) → k < m → f k ≡ g k
each {A = A} m f g e k h = sym (at m f (f k) k h) ∙ ap (λ (l : List A). get_or l k (f k)) e ∙ at m g (f k) k h

unfoldable square : ℕ → (ℕ → ℕ → ℤ) → List (List ℤ)
square m f = table m (λ k. table m (f k))

cells : (m : ℕ) (f g : ℕ → ℕ → ℤ) → square m f ≡ square m g → (k q : ℕ) → k < m → q < m → f k q ≡ g k q
unfolding square
cells m f g e k q h l = each m (f k) (g k) (each m (λ j. table m (f j)) (λ j. table m (g j)) e k h) q l

-- the parts of `ExactlySolved` as equations of tables, which a family decides by computation
module _ (f : Family) where
  abbrev u : Setup
  u = family_setup f

  abbrev d : Data
  d = family_data f

  abbrev m : ℕ
  m = f.p + 1

  abbrev equations : Equations
  equations = equations_of u d f.w

  -- the eliminated matrix of the fit, where there is one
  abbrev eliminated_in : Result Coefficients Refusal → Matrix
  eliminated_in (Ok c) = c.inverse
  eliminated_in (Err r) = []

  abbrev fit : Result Coefficients Refusal
  fit = fit_coefficients u d f.w f.sum

  abbrev coefficients : Coefficients
  coefficients = record { beta = f.beta; inverse = eliminated_in fit }

  abbrev gram : ℕ → ℕ → ℤ
  gram k q = moment_at u d f.w (design_at u d f.w q) k

  abbrev moment : ℕ → ℤ
  moment = moment_at u d f.w (cell_at d.responses)

  -- the sides of the equations in `ExactFit`
  abbrev matrix : ℕ → ℕ → ℤ
  matrix k q = matrix_at equations k q *ℤ units_of_one *ℤ units_of_one

  abbrev right : ℕ → ℤ
  right k = cell_at equations.rhs k *ℤ units_of_one *ℤ units_of_one

  abbrev product : ℕ → ℕ → ℤ
  product k r = sum_below m (λ q. matrix_at equations k q *ℤ inverse_at (eliminated_in fit) m q r)

  abbrev identity : ℕ → ℕ → ℤ
  identity k r = cond (eqb k r) (units_of_one *ℤ units_of_one) (pos 0)

  abbrev solution : ℕ → ℤ
  solution q = sum_below m (λ r. inverse_at (eliminated_in fit) m q r *ℤ cell_at equations.rhs r)

  abbrev beta : ℕ → ℤ
  beta q = cell_at f.beta q *ℤ units_of_one

  record Computed : Type 0 where
    same_fit : fit ≡ Ok coefficients
    same_matrix : square m gram ≡ square m matrix
    same_right : table m moment ≡ table m right
    same_product : square m product ≡ square m identity
    same_solution : table m solution ≡ table m beta

  exactly : Computed → ExactFit u d f.w f.sum coefficients
  exactly c = (
    c.same_fit,
    record {
      matrix = cells m gram matrix c.same_matrix;
      right = each m moment right c.same_right;
      inverse = cells m product identity c.same_product;
      coefficients = each m solution beta c.same_solution;
    },
  )

  solved_by : Computed → ExactlySolved f
  solved_by c =
      record {
        coefficients = coefficients;
        found = refl;
        exact = exactly c;
        solves = normal_equations u d f.w f.sum coefficients (exactly c);
      }

computed : Computed mean_of_two × Computed line_of_three × Computed plane_of_four
unfolding fit_coefficients coefficients_under eliminated_of from_eliminated equations_of from_inverse invert_matrix inverse_finite inverse_row_finite coefficients_finite coefficients_of coefficient_step all_below all_step inverse_times inverse_step inverse_cell eliminated elimination try_step gauss_step reduced pivot_of pivot_step div_row div_step less_row less_step cleared clear_step clear_row cell normal_step observe observe_step add_row cell_step design_row design_step mirrored_cell mirror_step augmented_row augment_step augmented_matrix range magnitude of_int add sub mul div lt eq of_bits sum_below table moment_at square
computed = (
  record { same_fit = refl; same_matrix = refl; same_right = refl; same_product = refl; same_solution = refl },
  record { same_fit = refl; same_matrix = refl; same_right = refl; same_product = refl; same_solution = refl },
  record { same_fit = refl; same_matrix = refl; same_right = refl; same_product = refl; same_solution = refl },
)

pub family : ExactlySolved mean_of_two × ExactlySolved line_of_three × ExactlySolved plane_of_four
family = (solved_by mean_of_two computed.0, solved_by line_of_three computed.1, solved_by plane_of_four computed.2)
