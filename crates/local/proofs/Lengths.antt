-- The coefficients of a location solved are 8 numbers.
use mathlib.Core.Path.{◌≡◌}
use Prim.Native.Nat.{ℕ}
use lib.ListN.{length}
use Rattle.setup.specs.declared.GwrBandwidth.{GwrBandwidth}
use Rattle.setup.specs.declared.Setup.{Setup}
use Rattle.setup.specs.Data.{Data}
use Rattle.std.specs.Prelude.{IfOk, Result, Ok, Err}
use Rattle.refusal.specs.declared.Refusal.{Refusal}
use Rattle.estimate.specs.declared.Coefficients.{Coefficients}
use Rattle.evaluate.specs.declared.Values.{Values}
use Rattle.estimate.proofs.Lengths.{Eight, fit_eight}
use Rattle.local.specs.Solve.{solved_by, solve_local, solve_location}

solved_eight : (f : Result Coefficients Refusal) (v : Coefficients → Values) → Eight f → IfOk (solved_by f v) (λ s. length s.beta ≡ 8)
unfolding solved_by
solved_eight (Ok c) v h = h
solved_eight (Err r) v h = tt

pub beta_eight : (u : Setup) (d : Data) (bandwidth : GwrBandwidth) (i : ℕ) → IfOk (solve_location u d bandwidth i) (λ s. length s.beta ≡ 8)
unfolding solve_location solve_local
beta_eight u d bandwidth i = solved_eight _ _ (fit_eight _ _ _ _)
