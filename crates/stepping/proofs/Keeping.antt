-- A step of a sound record leaves a sound one, ended or not, with the same setup, and the output as long as it was.
use Rattle.std.specs.Prelude.{Result, Ok, Err, IfOk}
use Rattle.refusal.specs.declared.Refusal.{Refusal}
use Rattle.local.specs.declared.Solved.{Solved}
use mathlib.Core.Path.{◌≡◌, refl, subst, subst⁻¹, ◌∙◌}
use mathlib.Core.Bool.{Bool, true, false, ◌||◌, true≢false}
use mathlib.Core.List.{List}
use Prim.Native.Nat.{ℕ, ◌+◌, ◌*◌, ◌≤◌, ◌<◌}
use native.Mathlib.Nat.{suc-mul}
use native.Mathlib.Numerals.{add-one}
use native.Mathlib.Omega.{arith}
use borrow.Author.Tests.{eqb-false}
use lib.Dec.{eqb}
use lib.ListN.{length}
use lib.Ieee.{Float}
use Rattle.real.proofs.Cases.{by_test}
use Rattle.setup.specs.declared.GwrBandwidth.{GwrBandwidth}
use Rattle.setup.specs.declared.GwrBandwidth.TheVariants.{Fixed, AdaptiveKnn}
use Rattle.setup.specs.declared.Setup.{Setup}
use Rattle.setup.specs.Bandwidth.{Usable}
use Rattle.setup.specs.Data.{Data}
use Rattle.setup.specs.Shape.{Sized}
use Rattle.row.proofs.Rows.{put_long}
use Rattle.local.proofs.Lengths.{beta_eight}
use Rattle.criterion.specs.Aicc.{score_of}
use Rattle.golden.specs.declared.Bracket.{Bracket}
use Rattle.golden.specs.Golden.{aim_of, narrow_of, tight_of}
use Rattle.bounds.specs.Bounds.{least_count, greatest_count, point_of, bandwidth_at}
use Rattle.bounds.proofs.Usable.{bandwidth_usable}
use Rattle.sweep.specs.declared.Sweep.{Sweep}
use Rattle.sweep.specs.Sweep.{add_values, next_location, row_found, row_after}
use Rattle.stepping.specs.declared.Stage.{Stage}
use Rattle.stepping.specs.declared.Stage.TheVariants.{First, Second, Round, Final, Ended}
use Rattle.stepping.specs.declared.Job.{Job}
use Rattle.stepping.specs.Step.{is_ended, is_final, ended_solve, next_sweep, is_last_round, close_at, close_job, solved_job, pass_job, after_outcome, solve_of, step_job, step_out, step_of, is_over}
use Rattle.stepping.specs.Sound.{OfKind, TrialsAt, Sound}
use Rattle.stepping.proofs.Sounds.{solved_sound}

-- sound as it is, ended or not
abbrev pub Held : Job → Type 0
Held j = Sound (ended_solve j.stage) j

pub solve_live : (x : Stage) → is_ended x ≡ false → ended_solve x ≡ 0
solve_live First h = refl
solve_live Second h = refl
solve_live Round h = refl
solve_live Final h = refl
solve_live (Ended c) h = absurd (true≢false h)

pub held_live : (j : Job) → is_ended j.stage ≡ false → Held j → Sound 0 j
held_live j live h = subst (λ (k : ℕ). Sound k j) (solve_live j.stage live) h

-- a record that is sound before a step is sound as it is
pub sound_held : (j : Job) → Sound 0 j → Held j
sound_held j s = record { sized = s.sized; within = s.within; kind = s.kind; solves = omega (arith, s.solves); trials = s.trials }

-- ---- a sweep is over

next_row : (t n : ℕ) → (t + 1) * n ≡ t * n + n
next_row t n = rw (add-one, suc-mul)

-- the bandwidth at a point is of the kind that is sought
pub kind_at : (u : Setup) (point : Float) → Sized u → OfKind u.options.bandwidth (bandwidth_at u point)
unfolding bandwidth_at point_of
kind_at u point z = go u.options.bandwidth (bandwidth_usable u z point)
  where
    go : (w : GwrBandwidth) → Usable (point_of w point (least_count u.p) (greatest_count u.n u.p)) → OfKind w (point_of w point (least_count u.p) (greatest_count u.n u.p))
    go (Fixed b) h = tt
    go (AdaptiveKnn k) h = h

next_sound : (j : Job) (x : Stage) (g : Bracket) (point : Float) → Sound 1 j → TrialsAt x (j.trials.made + 1) → Sound 0 (next_sweep j x g point)
next_sound j x g point s h =
    record {
      sized = s.sized;
      within = omega (arith, s.sized.enough);
      kind = kind_at j.setup point s.sized;
      solves = omega (arith, s.solves, s.within, next_row j.trials.made j.setup.n);
      trials = h;
    }

or_false : (a b : Bool) → (a || b) ≡ false → a ≡ false
or_false true b h = h
or_false false b h = refl

close_at_lem : (j : Job) (x : Stage) (c : Result Float Refusal) → Sound 1 j → TrialsAt x j.trials.made → is_ended x ≡ false → Held (close_at x j c)
close_at_lem j First c s h live = next_sound j Second _ _ s (omega (arith, h))
close_at_lem j Second c s h live = next_sound j Round _ _ s (omega (arith, h), omega (arith, h))
close_at_lem j Round c s h live =
    let g = narrow_of j.trials.bracket (score_of c) in
    by_test Held (is_last_round j.trials.made g) _ _
    (λ e. next_sound j Final g g.best s (omega (arith, h.1)))
    (λ e.
    let off : j.trials.made ≡ 101 → ⊥ = eqb-false _ _ (or_false (eqb j.trials.made 101) (tight_of g) e) in
    next_sound j Round g (aim_of g) s (omega (arith, h.0), below j.trials.made h.1 off))
  where
    below : (t : ℕ) → t ≤ 101 → (t ≡ 101 → ⊥) → t + 1 ≤ 101
    below t h off = omega arith
close_at_lem j Final c s h live = record { sized = s.sized; within = s.within; kind = s.kind; solves = s.solves; trials = h }
close_at_lem j (Ended x) c s h live = absurd (true≢false live)

close_held : (j : Job) (c : Result Float Refusal) → Sound 1 j → is_ended j.stage ≡ false → Held (close_job j c)
unfolding close_job
close_held j c s live = close_at_lem j j.stage c s s.trials live

-- ---- one solve

-- on to the next location
moved_sound : (j : Job) (w : Sweep) → Sound 1 (solved_job j w) → (w.location + 1 ≡ j.setup.n → ⊥) → Sound 0 (solved_job j (next_location w))
moved_sound j w s off =
    record { sized = s.sized; within = below w.location j.setup.n s.within off; kind = s.kind; solves = omega (arith, s.solves); trials = s.trials }
  where
    below : (l n : ℕ) → l < n → (l + 1 ≡ n → ⊥) → l + 1 < n
    below l n h off = omega arith

pass_held : (j : Job) (w : Sweep) → Sound 0 j → w.location ≡ j.sweep.location → is_ended j.stage ≡ false → Held (pass_job j w)
unfolding pass_job
pass_held j w s e live =
    let k = solved_sound w s e in
    by_test Held (eqb (w.location + 1) j.setup.n) _ _
    (λ f. close_held (solved_job j w) _ k live)
    (λ f. sound_held (solved_job j (next_location w)) (moved_sound j w k (eqb-false _ _ f)))

outcome_held : (j : Job) (o : Result Solved Refusal) → Sound 0 j → is_ended j.stage ≡ false → Held (after_outcome j o)
outcome_held j (Ok v) s live = pass_held j (add_values j.sweep v.values) s refl live
outcome_held j (Err r) s live = close_held (solved_job j j.sweep) _ (solved_sound j.sweep s refl) live

-- a fit record stays fit
pub step_held : (d : Data) (j : Job) → Held j → is_ended j.stage ≡ false → Held (step_job d j)
unfolding step_job
step_held d j h live = outcome_held j (solve_of d j) (held_live j live h) live

-- ---- the setup

close_setup : (j : Job) (x : Stage) (c : Result Float Refusal) → (close_at x j c).setup ≡ j.setup
close_setup j First c = refl
close_setup j Second c = refl
close_setup j Round c = let g = narrow_of j.trials.bracket (score_of c) in
    by_test (λ (k : Job). k.setup ≡ j.setup) (is_last_round j.trials.made g) _ _ (λ e. refl) (λ e. refl)
close_setup j Final c = refl
close_setup j (Ended x) c = refl

outcome_setup : (j : Job) (o : Result Solved Refusal) → (after_outcome j o).setup ≡ j.setup
unfolding pass_job close_job
outcome_setup j (Ok v) =
    let w = add_values j.sweep v.values in
    by_test (λ (k : Job). k.setup ≡ j.setup) (eqb (w.location + 1) j.setup.n) _ _ (λ e. close_setup (solved_job j w) j.stage _) (λ e. refl)
outcome_setup j (Err r) = close_setup (solved_job j j.sweep) j.stage _

pub step_setup : (d : Data) (j : Job) → (step_job d j).setup ≡ j.setup
unfolding step_job
step_setup d j = outcome_setup j (solve_of d j)

-- ---- the output

step_long : (d : Data) (j : Job) (out : List Float) → Sized j.setup → j.sweep.location < j.setup.n → j.setup.n * (j.setup.p + 4) ≤ length out
    → length (step_out d j out) ≡ length out
unfolding step_out
step_long d j out z within room = go (is_final j.stage)
  where
    u : Setup
    u = j.setup

    room' : u.n * (u.p + 1 + 3) ≤ length out
    room' = let e : u.p + 1 + 3 ≡ u.p + 4 = omega arith in rw e room

    found : (o : Result Solved Refusal) → IfOk o (λ s. length s.beta ≡ 8) → length (row_found o u j.sweep.location out) ≡ length out
    found (Ok v) e = put_long out u.n (u.p + 1) j.sweep.location v.beta v.values room' within (omega (arith, z.narrow)) e
    found (Err r) e = refl

    go : (b : Bool) → length (row_after b u j.sweep.location (solve_of d j) out) ≡ length out
    go true = found (solve_of d j) (beta_eight _ _ _ _)
    go false = refl

-- ---- every state on the way

-- a state of the job with the setup u and an output of so many numbers
pub record Holds (u : Setup) (long : ℕ) (s : Job × List Float) : Type 0 where
  pub setup : s.0.setup ≡ u
  pub held : Held s.0
  pub length_is : length s.1 ≡ long

pub holds_step : (d : Data) (u : Setup) (long : ℕ) (s : Job × List Float) → u.n * (u.p + 4) ≤ long → Holds u long s → is_over s ≡ false → Holds u long (step_of d s)
unfolding step_of
holds_step d u long s room h live =
    let j = s.0 in
    record {
      setup = step_setup d j ∙ h.setup;
      held = step_held d j h.held live;
      length_is =
          step_long d j s.1 h.held.sized h.held.within
          (subst⁻¹ (λ (w : Setup). w.n * (w.p + 4) ≤ length s.1) h.setup (omega (arith, room, h.length_is)))
          ∙ h.length_is;
    }
