-- A sweep: every location solved at one bandwidth, in order, up to the first refusal. 000's `fit_all_locations`. Definitions only.
use Rattle.refusal.specs.declared.Refusal.{Refusal}
use Rattle.std.specs.Prelude.{ℕ, ◌+◌, ◌*◌, ◌≤◌, Bool, true, false, List, [], Float, Result, Ok, Err, Option, Some, None}
use Rattle.std.specs.Float.{binary64}
use Rattle.std.specs.Float.Ieee.{add, mul}
use Rattle.real.specs.Fold.{range}
use Rattle.real.specs.Reals.{zero64}
use Rattle.setup.specs.declared.GwrBandwidth.{GwrBandwidth}
use Rattle.setup.specs.declared.Setup.{Setup}
use Rattle.setup.specs.Data.{Data}
use Rattle.evaluate.specs.declared.Values.{Values}
use Rattle.local.specs.declared.Solved.{Solved}
use Rattle.local.specs.Solve.{solve_location}
use Rattle.row.specs.Row.{put_row}
use Rattle.criterion.specs.Aicc.{corrected_aic}
use Rattle.sweep.specs.declared.Sweep.{Sweep}
use Rattle.sweep.specs.declared.Swept.{Swept}

-- before the first location
abbrev pub new_sweep : Sweep
new_sweep = record { location = 0; trace = zero64; squares = zero64 }

-- 000: `trace_s += leverage`, and the residual's square
abbrev pub add_values : Sweep → Values → Sweep
add_values s v =
    record {
      location = s.location;
      trace = add binary64 s.trace v.leverage;
      squares = add binary64 s.squares (mul binary64 v.residual v.residual);
    }

abbrev pub next_location : Sweep → Sweep
next_location s = record { location = s.location + 1; trace = s.trace; squares = s.squares }

-- 01: a sweep stops at the first refusal
abbrev pub after_solve : Sweep → Result Solved Refusal → Swept
after_solve s (Ok v) = record { stopped = None; sweep = next_location (add_values s v.values) }
after_solve s (Err r) = record { stopped = Some r; sweep = s }

-- 01: only the final fit writes, row by row; a location that could not be solved has no row
abbrev pub row_found : Result Solved Refusal → Setup → ℕ → List Float → List Float
row_found (Ok v) u i out = put_row out (u.p + 1) i v.beta v.values
row_found (Err r) u i out = out

-- the output after location i, with rows or without
abbrev pub row_after : Bool → Setup → ℕ → Result Solved Refusal → List Float → List Float
row_after true u i v out = row_found v u i out
row_after false u i v out = out

-- sweep and output after location i, unless the sweep has stopped
abbrev pub visit_at : Option Refusal → Bool → Setup → Data → GwrBandwidth → ℕ → Swept × List Float → Swept × List Float
visit_at None rows u d b i s =
    let v = solve_location u d b i in
    (after_solve s.0.sweep v, row_after rows u i v s.1)
visit_at (Some r) rows u d b i s = s

unfoldable pub visit : Bool → Setup → Data → GwrBandwidth → ℕ → Swept × List Float → Swept × List Float
visit rows u d b i s = visit_at s.0.stopped rows u d b i s

-- a whole sweep, with rows or without
unfoldable pub fit_all_locations : Bool → Setup → Data → GwrBandwidth → List Float → Swept × List Float
fit_all_locations rows u d b out = range (visit rows u d b) 0 u.n (record { stopped = None; sweep = new_sweep }, out)

-- a trial's, which writes no row
abbrev pub sweep_of : Setup → Data → GwrBandwidth → Swept
sweep_of u d b = (fit_all_locations false u d b []).0

-- 01: the failing solve counts
abbrev pub solves_after : Option Refusal → ℕ → ℕ
solves_after None location = location
solves_after (Some r) location = location + 1

abbrev pub solves_of : Swept → ℕ
solves_of s = solves_after s.stopped s.sweep.location

-- 01: if no refusal comes, the sweep's AICc or refusal 17 follows
abbrev pub ending_at : Option Refusal → Setup → Sweep → Result Float Refusal
ending_at None u s = corrected_aic u s.squares s.trace
ending_at (Some r) u s = Err r

abbrev pub ending_of : Setup → Swept → Result Float Refusal
ending_of u s = ending_at s.stopped u s.sweep

-- ---- what the code's parts need

-- room for n rows, where rows are written
abbrev pub RoomFor : Bool → Setup → ℕ → Type 0
RoomFor true u out = u.n * (u.p + 4) ≤ out
RoomFor false u out = Unit {0}
