-- The weighted normal equations of a local fit, as 000's `solve_local` forms them. Definitions, and an example at the end.
use Rattle.std.specs.Prelude.{ℕ, ◌+◌, ◌≡◌, cond, [], ◌∷◌, get_or, set, replicate, Float}
use Rattle.std.proofs.Math.Path.{refl}
use Rattle.std.specs.Float.{nan, binary64}
use Rattle.std.specs.Float.Ieee.{add, mul, eq, of_bits}
use Rattle.real.specs.Fold.{range}
use Rattle.real.specs.Reals.{zero64, one64}
use Rattle.setup.specs.declared.Setup.{Setup}
use Rattle.setup.specs.Data.{Data, data_of}
use Rattle.setup.specs.Options.{default_options}
use Rattle.real.specs.Matrix.{Row}
use Rattle.normal.specs.declared.equations.Equations.{Equations}
use Rattle.normal.specs.Design.{design_step, design_row}

-- `a[[p, q]] += wx * design[[j, q]]`, at q
unfoldable pub cell_step : Float → Row → ℕ → Row → Row
cell_step wx x q row = set row q (add binary64 (get_or row q nan) (mul binary64 wx (get_or x q nan)))

-- the same `for q in p..n_params`, m being `n_params`
unfoldable pub add_row : Float → Row → ℕ → ℕ → Row → Row
add_row wx x p m row = range (cell_step wx x) p m row

-- `let wx = w * xjp; rhs[p] += wx * y[j];` and row p of the upper triangle
unfoldable pub observe_step : Float → Row → Float → ℕ → ℕ → Equations → Equations
observe_step w x y m p s =
    let wx = mul binary64 w (get_or x p nan) in
    record { a = set s.a p (add_row wx x p m (get_or s.a p [])); rhs = set s.rhs p (add binary64 (get_or s.rhs p nan) (mul binary64 wx y)) }

-- `for p in 0..n_params`: an observation of weight w, design row x and response y added
unfoldable pub observe : Float → Row → Float → ℕ → Equations → Equations
observe w x y m s = range (observe_step w x y m) 0 m s

-- one turn of `for j in 0..n`: observation j is left out where `w == 0.0`
unfoldable pub normal_step : Setup → Data → Row → ℕ → Equations → Equations
normal_step u d w j s =
    cond (eq (get_or w j nan) zero64)
    s
    (observe (get_or w j nan) (design_row d.predictors u.p j) (get_or d.responses j nan) (u.p + 1) s)

-- `for j in 0..n`, whole, from zeros: the normal equations of the data d under the weights w
unfoldable pub equations_of : Setup → Data → Row → Equations
equations_of u d w = range (normal_step u d w) 0 u.n (record { a = replicate 8 (replicate 8 zero64); rhs = replicate 8 zero64 })

-- ---- example

module _ where
  -- an observation of weight 0 is left out, though its response is NaN
  left_out :
      equations_of (record { options = default_options; n = 2; p = 0 }) (data_of [] [] (one64 ∷ (nan ∷ []))) (one64 ∷ (zero64 ∷ []))
      ≡ record { a = (one64 ∷ replicate 7 zero64) ∷ replicate 7 (replicate 8 zero64); rhs = one64 ∷ replicate 7 zero64 }
  unfolding equations_of normal_step observe observe_step add_row cell_step design_row design_step range eq add mul of_bits
  left_out = refl
