-- A turn of any record: what one that is not refused answers and leaves alone.
use Rattle.local.specs.declared.Solved.{Solved}
use Rattle.std.specs.Prelude.{Ok, Err, Result}
use mathlib.Core.Path.{◌≡◌, refl, sym, subst⁻¹}
use mathlib.Core.Bool.{false}
use mathlib.Core.List.{List}
use mathlib.Core.Logic.{inr}
use Prim.Native.Nat.{ℕ, ◌+◌}
use native.Mathlib.Omega.{arith}
use lib.Dec.{eqb}
use lib.ListN.{length}
use lib.Ieee.{Float}
use lib.Ieee.Scale.{finite}
use Rattle.claims.specs.Words.{rounded, from_count, root, Refusal, NoneOf, Decides, Setup, Data, deviation, corrected_aic, score_of, narrow_of, add_values, Stage, First, Second, Round, Final, Ended, Job, is_ended, is_last_round, close_at, close_job, pass_job, solved_job, after_outcome, solve_of, step_job, step_of, is_over, run, turn_tests, answer_at, run_of, turn_of}
use Rattle.claims.proofs.Laws.{either, never, none_head, OutcomeAt, location_at, Holds, sound_held, holds_step, fit_means, run_few, run_keeps}
use Rattle.job.specs.declared.Answer.TheVariants as answer
use Rattle.job.proofs.Turning as turns
use Rattle.claims.specs.Turns.{JobState}
use Rattle.claims.specs.DemandOne.{Met, TurnAnswered, TurnServed}
use Rattle.claims.proofs.Lending.{Untouched, step_untouched}
use Rattle.claims.proofs.Untouched.{Kept, front_kept}
use Rattle.claims.proofs.one.Solved.{at_met}

-- ---- the job ends with 14 to 17 only

abbrev CriterionMet : Result Float Refusal → Type 0
CriterionMet (Ok v) = Unit {0}
CriterionMet (Err r) = Met r

abbrev StageMet : Stage → Type 0
StageMet First = Unit {0}
StageMet Second = Unit {0}
StageMet Round = Unit {0}
StageMet Final = Unit {0}
StageMet (Ended c) = CriterionMet c

aic_met : (u : Setup) (q t : Float) → CriterionMet (corrected_aic u q t)
unfolding corrected_aic
aic_met u q t = either CriterionMet (finite (deviation rounded root (from_count u.n) q)) _ _ tt (inr (inr (inr (inr refl))))

close_met : (x : Stage) (j : Job) (c : Result Float Refusal) → CriterionMet c → StageMet j.stage → StageMet (close_at x j c).stage
close_met First j c m h = tt
close_met Second j c m h = tt
close_met Round j c m h = either (λ (k : Job). StageMet k.stage) (is_last_round j.trials.made (narrow_of j.trials.bracket (score_of c))) _ _ tt tt
close_met Final j c m h = m
close_met (Ended x) j c m h = h

after_met : (j : Job) (o : Result Solved Refusal) → OutcomeAt o → StageMet j.stage → StageMet (after_outcome j o).stage
unfolding pass_job close_job
after_met j (Ok v) l h =
    let w = add_values j.sweep v.values in
    either (λ (k : Job). StageMet k.stage) (eqb (w.location + 1) j.setup.n) _ _ (close_met j.stage (solved_job j w) _ (aic_met _ _ _) h) h
after_met j (Err r) l h = close_met j.stage (solved_job j j.sweep) (Err r) (at_met r l) h

step_met : (d : Data) (j : Job) → StageMet j.stage → StageMet (step_job d j).stage
unfolding step_job
step_met d j h = after_met j (solve_of d j) (location_at j.setup d j.bandwidth j.sweep.location) h

live_met : (x : Stage) → is_ended x ≡ false → StageMet x
live_met First h = tt
live_met Second h = tt
live_met Round h = tt
live_met Final h = tt
live_met (Ended c) h = never (sym h)

told : (x : Stage) (j : Job) → StageMet x → TurnAnswered (answer_at x j)
told First j h = tt
told Second j h = tt
told Round j h = tt
told Final j h = tt
told (Ended (Ok v)) j h = tt
told (Ended (Err r)) j h = (h, refl)

-- ---- a turn

module _ (j : Job) (d : Data) (out : List Float) (a : ℕ) where
  -- every state of its run
  abbrev Well : JobState → Type 0
  Well s = Holds j.setup (length out) s × Untouched out s × StageMet s.0.stage × Kept j out s

  served : NoneOf (turn_tests j d (length out)) → TurnServed j out a (run_of j d out a)
  unfolding run_of turn_tests
  served h =
      let z = turns.turn_passed j d (length out) h in
      let live : is_ended j.stage ≡ false = (none_head _ _ _ (none_head _ _ _ h).1).0 in
      let u = j.setup in
      let start : Well (j, out) = (record { setup = refl; held = sound_held j z.0; length_is = refl }, refl, live_met j.stage live, (omega arith, refl)) in
      let keep : (s : JobState) → is_over s ≡ false → Well s → Well (step_of d s) =
      λ s l w. (holds_step d u (length out) s z.2 w.0 l, step_untouched d u (length out) z.2 out s w.0 l w.1, unfold step_of in step_met d s.0 w.2, front_kept d j out s z.2 w.0 l w.3) in
      let r = run (step_of d) is_over a (j, out) in
      let w : Well r.0 = run_keeps (step_of d) is_over Well keep a (j, out) start in
      record {
        answered = told r.0.0.stage r.0.0 w.2;
        steps = run_few (step_of d) is_over a (j, out);
        job = (fit_means r.0.0).1 w.0.held;
        setup = w.0.setup;
        kept = w.3.1;
        untouched = w.1;
        long = w.0.length_is;
      }

  pub turn_decides : Decides (turn_tests j d (length out))
      (λ (r : Refusal). turn_of j d out a ≡ (record { answer = answer.Refused r; steps = 0; job = j }, out))
      (TurnServed j out a (turn_of j d out a))
  turn_decides =
      let t = turns.turn_decides j d out a in
      record { refused = t.refused; served = λ h. subst⁻¹ (TurnServed j out a) (t.served h) (served h) }
