-- Beginning: 01's 'Search and turns'. Definitions only.
use Rattle.std.specs.Prelude.{ℕ, Result, Ok, Err}
use Rattle.refusal.specs.declared.Refusal.{Refusal}
use Rattle.setup.specs.declared.GwrOptions.{GwrOptions}
use Rattle.setup.specs.declared.Setup.{Setup}
use Rattle.setup.specs.Data.{Data}
use Rattle.setup.specs.Shape.{setup_of}
use Rattle.golden.specs.Golden.{no_bracket, start_of}
use Rattle.plan.specs.declared.Plan.{Plan}
use Rattle.plan.specs.declared.Plan.TheVariants.{Settled, Sought}
use Rattle.bounds.specs.Bounds.{bandwidth_at}
use Rattle.plan.specs.Plan.{Acceptance, accept_of}
use Rattle.stepping.specs.declared.Stage.TheVariants.{First, Final}
use Rattle.stepping.specs.declared.Job.{Job}
use Rattle.stepping.specs.Step.{fresh_job}

-- the first trial or the final fit set up
abbrev pub start_job : Setup → Plan → Job
start_job u (Settled b) = fresh_job u Final no_bracket b
start_job u (Sought lo hi) = let g = start_of lo hi in fresh_job u First g (bandwidth_at u g.c)

-- a refused beginning makes no job
abbrev pub begun_with : Acceptance → Setup → Result Job Refusal
begun_with (Err r) u = Err r
begun_with (Ok q) u = Ok (start_job u q)

-- 01: beginning runs the input checks and sets up the first trial or the final fit; out is the output's length
unfoldable pub begin_of : Data → ℕ → GwrOptions → ℕ → Result Job Refusal
begin_of d p o out = begun_with (accept_of d p o out) (setup_of d p o)
