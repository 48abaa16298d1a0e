-- A trial of the search. Definitions only.
use Rattle.std.specs.Prelude.{Float}
use Rattle.setup.specs.declared.GwrBandwidth.{GwrBandwidth}
use Rattle.setup.specs.declared.Setup.{Setup}
use Rattle.setup.specs.Data.{Data}
use Rattle.criterion.specs.Aicc.{score_of}
use Rattle.bounds.specs.Bounds.{bandwidth_at}
use Rattle.sweep.specs.declared.Swept.{Swept}
use Rattle.sweep.specs.Sweep.{sweep_of, solves_of, ending_of}
use Rattle.search.specs.declared.Trial.{Trial}

-- 01: a trial is a sweep that gives its score
abbrev pub trial_from : Setup → Swept → Trial
trial_from u s = record { score = score_of (ending_of u s); solves = solves_of s }

-- 000's `evaluate_aicc`: the trial at a bandwidth
abbrev pub evaluate_aicc : Setup → Data → GwrBandwidth → Trial
evaluate_aicc u d b = trial_from u (sweep_of u d b)

-- the trial at a point of the search
unfoldable pub trial_of : Setup → Data → Float → Trial
trial_of u d point = evaluate_aicc u d (bandwidth_at u point)
