-- What is known of a sound record, and that a solve keeps it so.
use mathlib.Core.Path.{◌≡◌, subst⁻¹}
use Prim.Native.Nat.{ℕ, ◌+◌, ◌*◌, ◌≤◌, ◌<◌}
use native.Mathlib.Omega.{arith}
use native.Mathlib.Nat.{mul-le-mul}
use Rattle.setup.specs.declared.GwrBandwidth.{GwrBandwidth}
use Rattle.setup.specs.declared.GwrBandwidth.TheVariants.{Fixed, AdaptiveKnn}
use Rattle.setup.specs.Bandwidth.{Usable}
use Rattle.sweep.specs.declared.Sweep.{Sweep}
use Rattle.stepping.specs.declared.Stage.{Stage}
use Rattle.stepping.specs.declared.Stage.TheVariants.{First, Second, Round, Final, Ended}
use Rattle.stepping.specs.declared.Job.{Job}
use Rattle.stepping.specs.Step.{solved_job}
use Rattle.stepping.specs.Sound.{OfKind, TrialsAt, Sound}

pub trials_few : (x : Stage) (t : ℕ) → TrialsAt x t → t ≤ 102
trials_few First t h = omega (arith, h)
trials_few Second t h = omega (arith, h)
trials_few Round t h = omega (arith, h.1)
trials_few Final t h = h
trials_few (Ended c) t h = h

pub kind_usable : (kind b : GwrBandwidth) → OfKind kind b → Usable b
kind_usable (Fixed a) (Fixed b) h = tt
kind_usable (Fixed a) (AdaptiveKnn k) h = absurd h
kind_usable (AdaptiveKnn j) (Fixed b) h = tt
kind_usable (AdaptiveKnn j) (AdaptiveKnn k) h = h

-- trials and a location make no large number
pub most_solves : (t n l : ℕ) → t ≤ 102 → n ≤ 512 → l < n → t * n + l ≤ 52736
most_solves t n l ht hn hl = omega (arith, mul-le-mul ht hn)

module _ {made : ℕ} {j : Job} (s : Sound made j) where
  pub sound_usable : Usable j.bandwidth
  sound_usable = kind_usable j.setup.options.bandwidth j.bandwidth s.kind

  pub sound_few : j.trials.made ≤ 102
  sound_few = trials_few j.stage j.trials.made s.trials

  pub sound_solves : j.solves ≤ 52736 + made
  sound_solves = omega (arith, s.solves, most_solves _ _ _ sound_few s.sized.few s.within)

-- one solve more of the same location
pub solved_sound : {j : Job} (w : Sweep) → Sound 0 j → w.location ≡ j.sweep.location → Sound 1 (solved_job j w)
solved_sound {j} w s e =
    record {
      sized = s.sized;
      within = omega (arith, s.within, e);
      kind = s.kind;
      solves = omega (arith, s.solves, e);
      trials = s.trials;
    }

pub is_sound : {made : ℕ} {j k : Job} → k ≡ j → Sound made j → Sound made k
is_sound {made} e s = subst⁻¹ (Sound made) e s
