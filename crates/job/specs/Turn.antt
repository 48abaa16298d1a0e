-- A turn: its refusals, and its run of steps. Definitions only.
use Rattle.std.specs.Prelude.{ℕ, Bool, not, List, ◌∷◌, ◌++◌, length, Float, Result}
use Rattle.refusal.specs.declared.Refusal.{Refusal}
use Rattle.refusal.specs.declared.Refusal.TheVariants.{UnfitRecord, AlreadyEnded, LengthsDiffer}
use Rattle.setup.specs.declared.Setup.{Setup}
use Rattle.setup.specs.Data.{Data}
use Rattle.checks.specs.Judge.{judge, ruled}
use Rattle.input.specs.Checks.{lengths_fit, value_tests, room_tests}
use Rattle.sweep.specs.Finish.{finish_of}
use Rattle.stepping.specs.declared.Stage.{Stage}
use Rattle.stepping.specs.declared.Job.{Job}
use Rattle.stepping.specs.Step.{step_of, by_stage, is_ended, is_over}
use Rattle.job.specs.declared.Answer.{Answer}
use Rattle.job.specs.declared.Answer.TheVariants as answer
use Rattle.job.specs.declared.Turned.{Turned}
use Rattle.job.specs.Run.{run}
use Rattle.fitness.specs.Fitness.{is_fit}

-- ---- the refusals of a turn, where out is the output's length

-- 21 lengths other than the record's n and p say, then 8, 9, 10, 26, 13
unfoldable pub lent_tests : Setup → Data → ℕ → List (Bool × Refusal)
lent_tests u d out = (not (lengths_fit u d), LengthsDiffer) ∷ (value_tests d ++ room_tests u out)

-- 19 record unfit, 20 already ended, then what is lent
unfoldable pub turn_tests : Job → Data → ℕ → List (Bool × Refusal)
turn_tests j d out = (not (is_fit j), UnfitRecord) ∷ (is_ended j.stage, AlreadyEnded) ∷ lent_tests j.setup d out

-- ---- what a turn answers

-- working, or ended with the summary and any refusal
abbrev pub answer_at : Stage → Job → Answer
answer_at x j = by_stage answer.Working answer.Working (λ (c : Result Float Refusal). answer.Ended (finish_of c j.bandwidth j.solves)) x

-- of a job after so many steps
abbrev pub tell_of : Job → ℕ → Turned
tell_of j steps = record { answer = answer_at j.stage j; steps = steps; job = j }

-- it steps until the allowance a is spent or the job ends
abbrev pub ran_of : (Job × List Float) × ℕ → Turned × List Float
ran_of r = (tell_of r.0.0 r.1, r.0.1)

unfoldable pub run_of : Job → Data → List Float → ℕ → Turned × List Float
run_of j d out a = ran_of (run (step_of d) is_over a (j, out))

-- a refused turn: steps are 0; job and output are untouched
abbrev pub refused_turn : Job → List Float → Refusal → Turned × List Float
refused_turn j out r = (record { answer = answer.Refused r; steps = 0; job = j }, out)

-- a turn with the allowance a
unfoldable pub turn_of : Job → Data → List Float → ℕ → Turned × List Float
turn_of j d out a = ruled (judge (turn_tests j d (length out))) (refused_turn j out) (run_of j d out a)
