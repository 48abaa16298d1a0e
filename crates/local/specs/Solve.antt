-- One local solve: the weights seen from the location, the coefficients from them, and what these say there. Definitions only.
use Rattle.std.specs.Prelude.{ℕ, Float, Result, Ok, Err}
use Rattle.refusal.specs.declared.Refusal.{Refusal}
use Rattle.setup.specs.declared.GwrBandwidth.{GwrBandwidth}
use Rattle.setup.specs.declared.Setup.{Setup}
use Rattle.setup.specs.Data.{Data}
use Rattle.neighbours.specs.Bandwidth.{local_bandwidth_distance}
use Rattle.weights.specs.Weights.{weights_at}
use Rattle.estimate.specs.declared.Coefficients.{Coefficients}
use Rattle.estimate.specs.Estimate.{fit_coefficients}
use Rattle.local.specs.declared.Solved.{Solved}
use Rattle.evaluate.specs.declared.Values.{Values}
use Rattle.evaluate.specs.Evaluate.{values_at}

-- the coefficients with their values, where they were found
unfoldable pub solved_by : Result Coefficients Refusal → (Coefficients → Values) → Result Solved Refusal
solved_by (Ok c) values = Ok (record { values = values c; beta = c.beta })
solved_by (Err r) values = Err r

-- `solve_local` at location i and the bandwidth distance b
unfoldable pub solve_local : Setup → Data → ℕ → Float → Result Solved Refusal
solve_local u d i b =
    let s = weights_at u d i b in
    solved_by (fit_coefficients u d s.0 s.1) (λ c. values_at u d s.0 i c.inverse c.beta s.1)

-- `solve_one`: location i at its own bandwidth, `local_bandwidth_distance`
unfoldable pub solve_location : Setup → Data → GwrBandwidth → ℕ → Result Solved Refusal
solve_location u d bandwidth i = solve_local u d i (local_bandwidth_distance d.coords u.n i bandwidth)
