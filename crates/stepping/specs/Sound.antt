-- The records that a step goes on from: 01's 'Refusals from the state' as facts. Definitions only.
use Rattle.std.specs.Prelude.{ℕ, ◌+◌, ◌*◌, ◌≤◌, ◌<◌, ◌≡◌}
use Rattle.setup.specs.declared.GwrBandwidth.{GwrBandwidth}
use Rattle.setup.specs.declared.GwrBandwidth.TheVariants.{Fixed, AdaptiveKnn}
use Rattle.setup.specs.Bandwidth.{Counted}
use Rattle.setup.specs.Shape.{Sized}
use Rattle.stepping.specs.declared.Stage.{Stage}
use Rattle.stepping.specs.declared.Stage.TheVariants.{First, Second, Round, Final, Ended}
use Rattle.stepping.specs.declared.Job.{Job}

-- 01: the current bandwidth is of the options' kind with any count in 1..512
abbrev pub OfKind : GwrBandwidth → GwrBandwidth → Type 0
OfKind (Fixed a) (Fixed b) = Unit {0}
OfKind (Fixed a) (AdaptiveKnn k) = ⊥
OfKind (AdaptiveKnn j) (Fixed b) = ⊥
OfKind (AdaptiveKnn j) (AdaptiveKnn k) = Counted k

-- 01: trials are 0 in the first trial, 1 in the second, 2 to 101 in a round, at most 102 in the final fit or ended
abbrev pub TrialsAt : Stage → ℕ → Type 0
TrialsAt First t = t ≡ 0
TrialsAt Second t = t ≡ 1
TrialsAt Round t = (2 ≤ t) × (t ≤ 101)
TrialsAt Final t = t ≤ 102
TrialsAt (Ended c) t = t ≤ 102

-- 01's list of what a fit record is, where the current location has been solved so many times: 0 before a step, 1 within it and once ended
pub record Sound (made : ℕ) (j : Job) : Type 0 where
  pub sized : Sized j.setup
  pub within : j.sweep.location < j.setup.n
  pub kind : OfKind j.setup.options.bandwidth j.bandwidth
  pub solves : j.solves ≤ j.trials.made * j.setup.n + j.sweep.location + made
  pub trials : TrialsAt j.stage j.trials.made
