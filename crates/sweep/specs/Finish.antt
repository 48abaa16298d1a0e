-- What a fit that was made answers. Definitions only.
use Rattle.refusal.specs.declared.Refusal.{Refusal}
use Rattle.std.specs.Prelude.{ℕ, Float, Result, Ok, Err, Option, Some, None}
use Rattle.setup.specs.declared.GwrBandwidth.{GwrBandwidth}
use Rattle.setup.specs.Bandwidth.{report_value}
use Rattle.criterion.specs.Aicc.{failed_summary}
use Rattle.refusal.specs.Numbers.{refusal_number}
use Rattle.sweep.specs.declared.Finish.{Finish}

-- the summary has bandwidth, AICc and the number of local solves; zeros but for the solves where solving refused
abbrev pub finish_of : Result Float Refusal → GwrBandwidth → ℕ → Finish
finish_of (Ok v) b solves = record { refusal = None; summary = record { bandwidth = report_value b; aicc = v; solves = solves } }
finish_of (Err r) b solves = record { refusal = Some r; summary = failed_summary solves }

-- 0 where no refusal was met, else the refusal's number
abbrev pub number_at : Option Refusal → ℕ
number_at None = 0
number_at (Some r) = refusal_number r

abbrev pub finish_number : Finish → ℕ
finish_number f = number_at f.refusal
