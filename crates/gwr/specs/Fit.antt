-- The uninterrupted fit: 000's `gwr_fit`, from options and data alone. Definitions only.
use Rattle.std.specs.Prelude.{ℕ, ◌+◌, true, List, length, Float, Ok, Err, Result}
use Rattle.refusal.specs.declared.Refusal.{Refusal}
use Rattle.setup.specs.declared.GwrBandwidth.{GwrBandwidth}
use Rattle.setup.specs.declared.GwrOptions.{GwrOptions}
use Rattle.setup.specs.declared.Setup.{Setup}
use Rattle.setup.specs.Data.{Data}
use Rattle.setup.specs.Shape.{setup_of}
use Rattle.plan.specs.declared.Plan.{Plan}
use Rattle.plan.specs.declared.Plan.TheVariants.{Settled, Sought}
use Rattle.plan.specs.Plan.{Acceptance, accept_of}
use Rattle.sweep.specs.declared.Swept.{Swept}
use Rattle.sweep.specs.Sweep.{fit_all_locations, solves_of, ending_of}
use Rattle.sweep.specs.Finish.{finish_of}
use Rattle.search.specs.Search.{optimize_bandwidth}
use Rattle.gwr.specs.declared.Fit.{Fit}

-- a final fit whose sweep was s, after `before` solves; it wrote a row for each location that it solved
abbrev pub fit_from : Setup → GwrBandwidth → ℕ → Swept → Fit
fit_from u b before s = record { finish = finish_of (ending_of u s) b (before + solves_of s); rows = s.sweep.location }

-- the final fit at a bandwidth: the answer and the output
unfoldable pub final_of : Setup → Data → GwrBandwidth → ℕ → List Float → Fit × List Float
final_of u d b before out =
    let s = fit_all_locations true u d b out in
    (fit_from u b before s.0, s.1)

-- 01: the final fit is at the bandwidth that the search from lo to hi finds
unfoldable pub sought_of : Setup → Data → Float → Float → List Float → Fit × List Float
sought_of u d lo hi out =
    let m = optimize_bandwidth u d lo hi in
    final_of u d m.bandwidth m.solves out

-- an accepted job's fit, by its plan
abbrev pub planned : Plan → Setup → Data → List Float → Fit × List Float
planned (Settled b) u d out = final_of u d b 0 out
planned (Sought lo hi) u d out = sought_of u d lo hi out

-- a fit that was made, and the output
abbrev pub fitted : Fit × List Float → Result Fit Refusal × List Float
fitted f = (Ok f.0, f.1)

-- a refusal from the input writes nothing
abbrev pub answered : Acceptance → Setup → Data → List Float → Result Fit Refusal × List Float
answered (Err r) u d out = (Err r, out)
answered (Ok q) u d out = fitted (planned q u d out)

-- 000's `gwr_fit`: the answer and the output
unfoldable pub gwr_fit : Data → ℕ → GwrOptions → List Float → Result Fit Refusal × List Float
gwr_fit d p o out = answered (accept_of d p o (length out)) (setup_of d p o) d out

-- the number of rows written
abbrev pub rows_written : Result Fit Refusal → ℕ
rows_written (Ok f) = f.rows
rows_written (Err r) = 0
