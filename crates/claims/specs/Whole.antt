-- What demand 3 says of the uninterrupted fit: its solve count, its final bandwidth and its trials. Definitions only.
use Rattle.refusal.specs.declared.Refusal.{Refusal}
use Rattle.gwr.specs.declared.Fit.{Fit}
use Rattle.std.specs.Prelude.{ℕ, zero, suc, ◌≡◌, cond, List, [], ◌∷◌, ◌++◌, T, Float, Result, Ok, Err}
use Rattle.std.specs.Float.{binary64}
use Rattle.std.specs.Float.Ieee.{lt, le, of_bits}
use Rattle.claims.specs.Words.{magnitude, GwrBandwidth, Data, Setup, Plan, bandwidth_at, Trial, trial_of, Variables, loop_body, before_loop, golden_section_min, Answer}
use Rattle.plan.specs.declared.Plan.TheVariants as plan
use Rattle.job.specs.declared.Answer.TheVariants as answer

-- 01: the solve count is the number of local solves in all sweeps, failing ones included; the fit's summary has it
abbrev pub count_of : Result Fit Refusal → ℕ
count_of (Ok f) = f.finish.summary.solves
count_of (Err r) = 0

-- 01: a turn answers ended with the summary and any refusal: those of the fit
abbrev pub ended_with : Result Fit Refusal → Answer
ended_with (Ok f) = answer.Ended f.finish
ended_with (Err r) = answer.Refused r

-- 01: the final fit is at the point `golden_section_min` finds, at lo (L) if a search has no trial, and unsearched at the given distance or count; the plan has all but the first
-- its bandwidth, and the solves made before it
abbrev pub to_final : Plan → Setup → Data → GwrBandwidth × ℕ
to_final (plan.Settled b) u d = (b, 0)
to_final (plan.Sought lo hi) u d = let m = golden_section_min (trial_of u d) lo hi in (bandwidth_at u m.0, m.1)

-- ---- the trials of a search, in their order

-- a trial: its point and its score
pub record Scored : Type 0 where
  pub point : Float
  pub score : Float

-- the trial that a round of 000's loop makes from the variables v: at its new c, or at its new d
abbrev pub tried_in : (Float → Trial) → Variables → Scored
tried_in f v =
    let w = loop_body f v in
    cond (lt v.fc v.fd) (record { point = w.c; score = w.fc }) (record { point = w.d; score = w.fd })

-- those of the loop with k rounds to go, until it is left
unfoldable pub loop_trials : (Float → Trial) → ℕ → Variables → List Scored
loop_trials f zero v = []
loop_trials f (suc k) v =
    let w = loop_body f v in
    tried_in f v ∷ cond (le (magnitude w.h) (of_bits binary64 0x3CB0_0000_0000_0000)) [] (loop_trials f k w)

-- those of `golden_section_min` from lo to hi: c, d, then the loop's
unfoldable pub golden_trials : (Float → Trial) → Float → Float → List Scored
golden_trials f lo hi =
    let v = before_loop f lo hi in
    record { point = v.c; score = v.fc } ∷ record { point = v.d; score = v.fd } ∷ loop_trials f 100 v

-- every trial that the fit makes
abbrev pub trials_of : Plan → Setup → Data → List Scored
trials_of (plan.Settled b) u d = []
trials_of (plan.Sought lo hi) u d = golden_trials (trial_of u d) lo hi

-- P of each
abbrev pub All : {A : Type 0} → (A → Type 0) → List A → Type 0
All P [] = Unit {0}
All P (t ∷ l) = P t × All P l

-- the score of t is at most that of every trial of l
abbrev pub Least : Scored → List Scored → Type 0
Least t l = All (λ (w : Scored). T (le t.score w.score)) l

-- t is the earliest trial of l whose score is at most that of every other
pub record Earliest (t : Scored) (l : List Scored) : Type 0 where
  pub before : List Scored
  pub behind : List Scored
  pub place : l ≡ before ++ (t ∷ behind)
  pub least : Least t l
  pub first : All (λ (w : Scored). Least w l → ⊥) before
