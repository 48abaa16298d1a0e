-- Fotheringham, Brunsdon and Charlton 2002: the coefficients β at a place solve (XᵀWX) β = XᵀWy. That equation with nothing rounded, and when a fit meets it. Definitions only; the theorem is in proofs/NormalEquations.
use Rattle.std.specs.Prelude.{◌≡◌, true, false, cond, ℕ, zero, suc, ◌+◌, ◌-◌, ◌*◌, ◌^◌, ◌<◌, eqb, ℤ, pos, negsuc, neg_ℤ, ◌+ℤ◌, ◌*ℤ◌, get_or, Ok, Float}
use Rattle.std.specs.Float.{nan, inf, fin}
use Rattle.setup.specs.declared.Setup.{Setup}
use Rattle.setup.specs.Data.{Data}
use Rattle.real.specs.Matrix.{Row, Matrix}
use Rattle.normal.specs.declared.equations.Equations.{Equations}
use Rattle.normal.specs.Design.{design_row}
use Rattle.normal.specs.Equations.{equations_of}
use Rattle.normal.specs.Augmented.{mirrored_cell}
use Rattle.estimate.specs.declared.Coefficients.{Coefficients}
use Rattle.estimate.specs.Inverse.{inverse_cell}
use Rattle.estimate.specs.Estimate.{fit_coefficients}

-- ---- a finite binary64 is a whole number of 2^-1074

-- 2^e in units of 2^-1074, for an e from -1074 on
abbrev pub power_units : ℤ → ℕ
power_units (pos k) = 2 ^ (1074 + k)
power_units (negsuc k) = 2 ^ (1074 - suc k)

-- a finite number in these units; what is not finite counts as 0
abbrev pub units_of : Float → ℤ
units_of nan = pos 0
units_of (inf s) = pos 0
units_of (fin false m e) = pos (m * power_units e)
units_of (fin true m e) = neg_ℤ (pos (m * power_units e))

-- the number 1 in these units. A product of two numbers counts units of 2^-2148, and one of three 2^-3222: a factor of 1 brings the other side to the same
abbrev pub units_of_one : ℤ
units_of_one = pos (2 ^ 1074)

-- f 0 + .. + f (n - 1)
unfoldable pub sum_below : ℕ → (ℕ → ℤ) → ℤ
sum_below zero f = pos 0
sum_below (suc n) f = sum_below n f +ℤ f n

-- cell k of a row, in units
abbrev pub cell_at : Row → ℕ → ℤ
cell_at row k = units_of (get_or row k nan)

-- ---- the equations of the data d under the weights w
module _ (u : Setup) (d : Data) (w : Row) where
  -- X in units: cell k of observation j's design row
  abbrev pub design_at : ℕ → ℕ → ℤ
  design_at k j = cell_at (design_row d.predictors u.p j) k

  -- cell k of XᵀWv, v a number of each observation: of its column q this is cell (k, q) of XᵀWX, and of y cell k of XᵀWy
  unfoldable pub moment_at : (ℕ → ℤ) → ℕ → ℤ
  moment_at v k = sum_below u.n (λ j. cell_at w j *ℤ design_at k j *ℤ v j)

  -- (XᵀWX) β = XᵀWy, row by row
  abbrev pub Solves : Row → Type 0
  Solves beta = (k : ℕ) → k < u.p + 1 → sum_below (u.p + 1) (λ q. moment_at (design_at q) k *ℤ cell_at beta q) ≡ moment_at (cell_at d.responses) k *ℤ units_of_one

  -- of the equations e, the inverse of the eliminated matrix a and β nothing was rounded: A = XᵀWX, its right-hand side is XᵀWy, A A⁻¹ = I, and β is A⁻¹ times the right-hand side
  pub record Exact (e : Equations) (a : Matrix) (beta : Row) : Type 0 where
    pub matrix : (k q : ℕ) → k < u.p + 1 → q < u.p + 1 → moment_at (design_at q) k ≡ units_of (mirrored_cell e.a k q) *ℤ units_of_one *ℤ units_of_one
    pub right : (k : ℕ) → k < u.p + 1 → moment_at (cell_at d.responses) k ≡ cell_at e.rhs k *ℤ units_of_one *ℤ units_of_one
    pub inverse : (k r : ℕ) → k < u.p + 1 → r < u.p + 1
        → sum_below (u.p + 1) (λ q. units_of (mirrored_cell e.a k q) *ℤ units_of (inverse_cell a (u.p + 1) q r)) ≡ cond (eqb k r) (units_of_one *ℤ units_of_one) (pos 0)
    pub coefficients : (q : ℕ) → q < u.p + 1 → sum_below (u.p + 1) (λ r. units_of (inverse_cell a (u.p + 1) q r) *ℤ cell_at e.rhs r) ≡ cell_at beta q *ℤ units_of_one

  -- the fit under weights with this sum has such coefficients
  abbrev pub ExactFit : Float → Coefficients → Type 0
  ExactFit sum c = (fit_coefficients u d w sum ≡ Ok c) × Exact (equations_of u d w) c.inverse c.beta
