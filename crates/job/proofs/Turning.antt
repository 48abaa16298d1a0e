-- The tests of a turn one after the other, the arms of its code, and what a turn may count on.
use mathlib.Core.Path.{◌≡◌, refl, sym, ap, subst⁻¹, ◌∙◌}
use mathlib.Core.Bool.{Bool, true, false, not}
use mathlib.Core.List.{List}
use Prim.Native.Nat.{ℕ, ◌+◌, ◌*◌, ◌-◌, ◌≤◌, ◌<◌}
use native.Mathlib.Omega.{arith}
use borrow.Author.Tests.{ltb-false, not-false}
use lib.ListN.{length}
use lib.Ieee.{Float}
use Rattle.std.specs.Prelude.{Err}
use Rattle.refusal.specs.declared.Refusal.{Refusal}
use Rattle.refusal.specs.declared.Refusal.TheVariants.{UnfitRecord, AlreadyEnded}
use Rattle.setup.specs.declared.Setup.{Setup}
use Rattle.setup.specs.Bandwidth.{Usable}
use Rattle.setup.specs.Data.{Data}
use Rattle.setup.specs.Shape.{Shaped}
use Rattle.checks.specs.Judge.{Check, judge, NoneOf, Decides}
use Rattle.checks.proofs.Judge.{first_here, judge_rest, none_head, none_append, decides}
use Rattle.input.specs.Checks.{output_tests, value_tests}
use Rattle.input.proofs.Meanings.{lengths_shaped}
use Rattle.stepping.specs.declared.Job.{Job}
use Rattle.stepping.specs.Step.{is_ended, step_of, is_over}
use Rattle.stepping.specs.Sound.{Sound}
use Rattle.stepping.proofs.Sounds.{sound_usable}
use Rattle.stepping.proofs.Keeping.{held_live, sound_held, Holds, holds_step}
use Rattle.job.specs.declared.Answer.{Answer}
use Rattle.job.specs.declared.Turned.{Turned}
use Rattle.job.specs.Run.{run}
use Rattle.fitness.specs.Fitness.{is_fit}
use Rattle.job.specs.Turn.{lent_tests, turn_tests, answer_at, tell_of, ran_of, run_of, refused_turn, turn_of}
use Rattle.fitness.proofs.Fits.{fit_means}
use Rattle.job.proofs.Runs.{Running, running_none, running_more, running_over, running_spent}

-- ---- a turn's tests

module _ (j : Job) (d : Data) (out : ℕ) where
  abbrev tests : List (Bool × Refusal)
  tests = turn_tests j d out

  pub turn_unfit : is_fit j ≡ false → Err UnfitRecord ≡ judge tests
  unfolding turn_tests
  turn_unfit e = sym (first_here UnfitRecord _ (ap not e))

  pub turn_ended : is_fit j ≡ true → is_ended j.stage ≡ true → Err AlreadyEnded ≡ judge tests
  unfolding turn_tests
  turn_ended e f = sym (judge_rest UnfitRecord _ (ap not e) ∙ first_here AlreadyEnded _ f)

  pub turn_lent : (k : Check) → is_fit j ≡ true → is_ended j.stage ≡ false → k ≡ judge (lent_tests j.setup d out) → k ≡ judge tests
  unfolding turn_tests
  turn_lent k e f h = h ∙ sym (judge_rest UnfitRecord _ (ap not e) ∙ judge_rest AlreadyEnded _ f)

  -- what a turn may count on that no test refuses
  pub turn_passed : NoneOf tests → Sound 0 j × Shaped j.setup d × (j.setup.n * (j.setup.p + 4) ≤ out)
  unfolding turn_tests lent_tests output_tests
  turn_passed h =
      let a = none_head _ _ _ h in
      let b = none_head _ _ _ a.1 in
      let c = none_head _ _ _ b.1 in
      let e = none_head _ _ _ (none_append (value_tests d) _ c.1).1 in
      let s = held_live j b.0 ((fit_means j).0 (not-false _ a.0)) in
      (s, (lengths_shaped j.setup d s.sized).0 (not-false _ c.0), ltb-false _ _ e.0)

  pub turn_usable : NoneOf tests → Usable j.bandwidth
  turn_usable h = sound_usable (turn_passed h).0

pub fit_live : (j : Job) → is_fit j ≡ true → is_ended j.stage ≡ false → Sound 0 j
fit_live j e live = held_live j live ((fit_means j).0 e)

-- a turn, by what its tests say
module _ (j : Job) (d : Data) (out : List Float) (a : ℕ) where
  -- which turns are refused, and what the others are given
  pub turn_decides : Decides (turn_tests j d (length out)) (λ (r : Refusal). turn_of j d out a ≡ refused_turn j out r) (turn_of j d out a ≡ run_of j d out a)
  unfolding turn_of
  turn_decides = decides (turn_tests j d (length out)) refl

-- ---- what a job says of itself

pub tell_is : (j : Job) (steps : ℕ) (r : Answer) → r ≡ answer_at j.stage j → ◌≡◌ {A = Turned} (record { answer = r; steps = steps; job = j }) (tell_of j steps)
tell_is j steps r e = ap (λ (x : Answer). record { answer = x; steps = steps; job = j }) e

-- ---- the loop of steps

-- an allowance of none
pub run_none : (j : Job) (d : Data) (out : List Float) (a : ℕ) (t : Turned) → a ≡ 0 → t ≡ tell_of j 0 → ◌≡◌ {A = Turned × List Float} (t, out) (run_of j d out a)
unfolding run_of run
run_none j d out a t e h = ap (λ (x : Turned). (x, out)) h ∙ sym (rw e)

-- so many steps of the allowance have been made, and the job is at j with the output out
pub record Reached (d : Data) (allowance : ℕ) (j₀ : Job) (out₀ : List Float) (left made : ℕ) (j : Job) (out : List Float) : Type 0 where
  pub running : Running (step_of d) is_over allowance (j₀, out₀) left made (j, out)
  pub holds : Holds j₀.setup (length out₀) (j, out)

module _ (d : Data) {allowance : ℕ} {j₀ : Job} {out₀ : List Float} where
  -- before the first step
  pub reached_none : {left : ℕ} → left ≡ allowance → Sound 0 j₀ → Reached d allowance j₀ out₀ left 0 j₀ out₀
  reached_none e s = subst⁻¹ (λ (n : ℕ). Reached d allowance j₀ out₀ n 0 j₀ out₀) e record { running = running_none; holds = record { setup = refl; held = sound_held j₀ s; length_is = refl } }

  module _ {left made : ℕ} {j : Job} {out : List Float} (r : Reached d allowance j₀ out₀ left made j out) where
    pub reached_usable : Usable j.bandwidth
    reached_usable = sound_usable r.holds.held

    -- what a step of it asks
    pub reached_ready : is_ended j.stage ≡ false → {u : Setup} → u ≡ j₀.setup → j₀.setup.n * (j₀.setup.p + 4) ≤ length out₀
        → Sound 0 j × ((u ≡ j.setup) × (j.setup.n * (j.setup.p + 4) ≤ length out))
    reached_ready live same room =
        let e = r.holds.setup in (
          held_live j live r.holds.held,
          (same ∙ sym e, subst⁻¹ (λ (u : Setup). u.n * (u.p + 4) ≤ length out) e (omega (arith, room, r.holds.length_is))),
        )

    pub reached_more : {rest : ℕ} (k : Job) (after : List Float) → rest ≡ left - 1 → j₀.setup.n * (j₀.setup.p + 4) ≤ length out₀ → 0 < left → is_ended j.stage ≡ false
        → ◌≡◌ {A = Job × List Float} (k, after) (step_of d (j, out)) → Reached d allowance j₀ out₀ rest (made + 1) k after
    reached_more k after fewer room some live h =
        subst⁻¹ (λ (n : ℕ). Reached d allowance j₀ out₀ n (made + 1) k after) fewer record {
          running = running_more r.running (k, after) some live h;
          holds = subst⁻¹ (Holds j₀.setup (length out₀)) h (holds_step d j₀.setup (length out₀) (j, out) room r.holds live);
        }

    told : (t : Turned) → t ≡ tell_of j made → ◌≡◌ {A = (Job × List Float) × ℕ} ((j, out), made) (run (step_of d) is_over allowance (j₀, out₀))
        → ◌≡◌ {A = Turned × List Float} (t, out) (run_of j₀ d out₀ allowance)
    unfolding run_of
    told t h e = ap (λ (x : Turned). (x, out)) h ∙ ap ran_of e

    pub reached_over : (t : Turned) → is_ended j.stage ≡ true → t ≡ tell_of j made → ◌≡◌ {A = Turned × List Float} (t, out) (run_of j₀ d out₀ allowance)
    reached_over t e h = told t h (running_over r.running e)

    pub reached_spent : (t : Turned) → left ≡ 0 → t ≡ tell_of j made → ◌≡◌ {A = Turned × List Float} (t, out) (run_of j₀ d out₀ allowance)
    reached_spent t e h = told t h (running_spent r.running e)
