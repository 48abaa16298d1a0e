-- The test of a record means 01's list: part by part, then the whole.
use mathlib.Core.Path.{◌≡◌, refl, sym}
use mathlib.Core.Bool.{true, false, true≢false}
use Prim.Native.Nat.{ℕ, ◌+◌, ◌*◌, ◌≤◌, ◌<◌}
use native.Mathlib.Omega.{arith}
use borrow.Author.Tests.{leb-true, le-leb}
use lib.Dec.{leb}
use Rattle.setup.specs.declared.GwrBandwidth.{GwrBandwidth}
use Rattle.setup.specs.declared.GwrBandwidth.TheVariants.{Fixed, AdaptiveKnn}
use Rattle.setup.specs.declared.Setup.{Setup}
use Rattle.setup.specs.Data.{Data}
use Rattle.setup.specs.Shape.{Sized}
use Rattle.checks.specs.Judge.{Means}
use Rattle.checks.proofs.Means.{and_means, equal_means, below_means}
use Rattle.stepping.specs.declared.Stage.{Stage}
use Rattle.stepping.specs.declared.Stage.TheVariants.{First, Second, Round, Final, Ended}
use Rattle.stepping.specs.declared.Job.{Job}
use Rattle.stepping.specs.Step.{is_ended, ended_solve, step_job}
use Rattle.stepping.specs.Sound.{OfKind, TrialsAt, Sound}
use Rattle.stepping.proofs.Sounds.{trials_few}
use Rattle.stepping.proofs.Keeping.{step_held}
use Rattle.fitness.specs.Fitness.{sizes_fit, kinds_fit, trials_fit, solves_fit, is_fit}

most_means : (a b : ℕ) → Means (leb a b) (a ≤ b)
most_means a b = (leb-true a b, le-leb a b)

pub sizes_means : (u : Setup) (l : ℕ) → Means (sizes_fit u l) (Sized u × (l < u.n))
unfolding sizes_fit
sizes_means u l =
    let m = and_means (leb u.n 512) _ (most_means _ _) (and_means (leb u.p 7) _ (most_means _ _) (and_means (leb (u.p + 1) u.n) _ (most_means _ _) (below_means l u.n))) in (
      λ e. let h = m.0 e in (record { few = h.0; narrow = h.1.0; enough = h.1.1.0 }, h.1.1.1),
      λ h. m.1 (h.0.few, (h.0.narrow, (h.0.enough, h.1))),
    )

pub kinds_means : (kind b : GwrBandwidth) → Means (kinds_fit kind b) (OfKind kind b)
unfolding kinds_fit
kinds_means (Fixed a) (Fixed b) = (λ e. tt, λ h. refl)
kinds_means (Fixed a) (AdaptiveKnn k) = (λ e. absurd (true≢false (sym e)), λ h. absurd h)
kinds_means (AdaptiveKnn j) (Fixed b) = (λ e. absurd (true≢false (sym e)), λ h. absurd h)
kinds_means (AdaptiveKnn j) (AdaptiveKnn k) =
    let m = and_means (leb 1 k) (leb k 512) (most_means 1 k) (most_means k 512) in
    (λ e. let h = m.0 e in record { some = h.0; few = h.1 }, λ h. m.1 (h.some, h.few))

pub trials_mean : (x : Stage) (t : ℕ) → Means (trials_fit x t) (TrialsAt x t)
unfolding trials_fit
trials_mean First t = equal_means t 0
trials_mean Second t = equal_means t 1
trials_mean Round t = and_means (leb 2 t) (leb t 101) (most_means 2 t) (most_means t 101)
trials_mean Final t = most_means t 102
trials_mean (Ended c) t = most_means t 102

pub trials_fit_few : (x : Stage) (t : ℕ) → trials_fit x t ≡ true → t ≤ 102
trials_fit_few x t e = trials_few x t ((trials_mean x t).0 e)

-- 01: a record is fit exactly when all of these hold
pub fit_means : (j : Job) → Means (is_fit j) (Sound (ended_solve j.stage) j)
unfolding is_fit solves_fit
fit_means j =
    let m =
    and_means (sizes_fit j.setup j.sweep.location) _ (sizes_means j.setup j.sweep.location)
    (and_means (kinds_fit j.setup.options.bandwidth j.bandwidth) _ (kinds_means j.setup.options.bandwidth j.bandwidth)
    (and_means (trials_fit j.stage j.trials.made) _ (trials_mean j.stage j.trials.made)
    (most_means j.solves (j.trials.made * j.setup.n + j.sweep.location + ended_solve j.stage))))
    in (
      λ e. let h = m.0 e in record { sized = h.0.0; within = h.0.1; kind = h.1.0; solves = h.1.1.1; trials = h.1.1.0 },
      λ s. m.1 ((s.sized, s.within), (s.kind, (s.trials, s.solves))),
    )

-- a step leaves a fit record fit
pub fit_stays : (d : Data) (j : Job) → is_fit j ≡ true → is_ended j.stage ≡ false → is_fit (step_job d j) ≡ true
fit_stays d j e live = (fit_means (step_job d j)).1 (step_held d j ((fit_means j).0 e) live)

pub ended_few : (x : Stage) → ended_solve x ≤ 1
ended_few First = omega arith
ended_few Second = omega arith
ended_few Round = omega arith
ended_few Final = omega arith
ended_few (Ended c) = omega arith
