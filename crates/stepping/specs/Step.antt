-- One step of a job: 01's 'Search and turns'. Definitions only.
use Rattle.refusal.specs.declared.Refusal.{Refusal}
use Rattle.std.specs.Prelude.{ℕ, ◌+◌, Bool, true, false, cond, ◌||◌, List, eqb, Float, Result, Ok, Err}
use Rattle.setup.specs.declared.GwrBandwidth.{GwrBandwidth}
use Rattle.setup.specs.declared.Setup.{Setup}
use Rattle.setup.specs.Data.{Data}
use Rattle.local.specs.declared.Solved.{Solved}
use Rattle.local.specs.Solve.{solve_location}
use Rattle.criterion.specs.Aicc.{corrected_aic, score_of}
use Rattle.golden.specs.declared.Bracket.{Bracket}
use Rattle.golden.specs.Golden.{first_of, second_of, aim_of, narrow_of, tight_of}
use Rattle.bounds.specs.Bounds.{bandwidth_at}
use Rattle.sweep.specs.declared.Sweep.{Sweep}
use Rattle.sweep.specs.Sweep.{new_sweep, add_values, next_location, row_after}
use Rattle.stepping.specs.declared.Stage.{Stage}
use Rattle.stepping.specs.declared.Stage.TheVariants.{First, Second, Round, Final, Ended}
use Rattle.stepping.specs.declared.Trials.{Trials}
use Rattle.stepping.specs.declared.Job.{Job}

-- one thing in a search, one in the final fit, and once ended what its ending says
abbrev pub by_stage : {A : Type 0} → A → A → (Result Float Refusal → A) → Stage → A
by_stage search final ended First = search
by_stage search final ended Second = search
by_stage search final ended Round = search
by_stage search final ended Final = final
by_stage search final ended (Ended c) = ended c

-- whether a job at this stage has ended
abbrev pub is_ended : Stage → Bool
is_ended x = by_stage false false (λ (c : Result Float Refusal). true) x

-- whether its solves write rows
abbrev pub is_final : Stage → Bool
is_final x = by_stage false true (λ (c : Result Float Refusal). false) x

-- the solve that a job has made of its location: 01's plus 1 once ended
abbrev pub ended_solve : Stage → ℕ
ended_solve x = cond (is_ended x) 1 0

-- a job that has made nothing yet
abbrev pub fresh_job : Setup → Stage → Bracket → GwrBandwidth → Job
fresh_job u x g b = record { setup = u; stage = x; trials = record { bracket = g; made = 0 }; bandwidth = b; sweep = new_sweep; solves = 0 }

-- ---- a sweep is over

-- 01: a trial scored: trials rise by one, location and sums go to zero; the next sweep is at a point, x its stage
abbrev pub next_sweep : Job → Stage → Bracket → Float → Job
next_sweep j x g point =
    let t : Trials = record { bracket = g; made = j.trials.made + 1 } in
    record { setup = j.setup; stage = x; trials = t; bandwidth = bandwidth_at j.setup point; sweep = new_sweep; solves = j.solves }

-- 01: trial 1 is c, trial 2 is d
abbrev pub close_first : Job → Float → Job
close_first j s = next_sweep j Second (first_of j.trials.bracket s) j.trials.bracket.d

-- 01: best is c if fc ≤ fd, else d; the first round follows
abbrev pub close_second : Job → Float → Job
close_second j s = let g = second_of j.trials.bracket s in next_sweep j Round g (aim_of g)

-- 01: the final fit of best follows 100 rounds, or |h| ≤ EPS after a round
abbrev pub is_last_round : ℕ → Bracket → Bool
is_last_round made g = eqb made 101 || tight_of g

abbrev pub close_round : Job → Float → Job
close_round j s =
    let g = narrow_of j.trials.bracket s in
    cond (is_last_round j.trials.made g) (next_sweep j Final g g.best) (next_sweep j Round g (aim_of g))

-- 01: a job that ends keeps the location of its last solve
abbrev pub end_job : Job → Result Float Refusal → Job
end_job j c =
    record { setup = j.setup; stage = Ended c; trials = j.trials; bandwidth = j.bandwidth; sweep = j.sweep; solves = j.solves }

-- 01: a trial has its score, and the final fit ends with its AICc or a refusal
abbrev pub close_at : Stage → Job → Result Float Refusal → Job
close_at First j c = close_first j (score_of c)
close_at Second j c = close_second j (score_of c)
close_at Round j c = close_round j (score_of c)
close_at Final j c = end_job j c
close_at (Ended x) j c = j

unfoldable pub close_job : Job → Result Float Refusal → Job
close_job j c = close_at j.stage j c

-- ---- one solve

-- 01: solves rise by one; w is the sweep so far
abbrev pub solved_job : Job → Sweep → Job
solved_job j w =
    record { setup = j.setup; stage = j.stage; trials = j.trials; bandwidth = j.bandwidth; sweep = w; solves = j.solves + 1 }

-- after location n - 1 the sweep is over, with its AICc or refusal 17
unfoldable pub pass_job : Job → Sweep → Job
pass_job j w =
    cond (eqb (w.location + 1) j.setup.n) (close_job (solved_job j w) (corrected_aic j.setup w.squares w.trace))
    (solved_job j (next_location w))

-- 01: success: trace and squares are added. Failure: in a trial the score is +infinity, and the final fit ends with the refusal
abbrev pub after_outcome : Job → Result Solved Refusal → Job
after_outcome j (Ok v) = pass_job j (add_values j.sweep v.values)
after_outcome j (Err r) = close_job (solved_job j j.sweep) (Err r)

-- 01: the current location solved
abbrev pub solve_of : Data → Job → Result Solved Refusal
solve_of d j = solve_location j.setup d j.bandwidth j.sweep.location

unfoldable pub step_job : Data → Job → Job
step_job d j = after_outcome j (solve_of d j)

-- 01: the final fit writes that row
unfoldable pub step_out : Data → Job → List Float → List Float
step_out d j out = row_after (is_final j.stage) j.setup j.sweep.location (solve_of d j) out

-- one step of a job and the output that it is lent
unfoldable pub step_of : Data → Job × List Float → Job × List Float
step_of d s = (step_job d s.0, step_out d s.0 s.1)

abbrev pub is_over : Job × List Float → Bool
is_over s = is_ended s.0.stage
