-- Which records are fit: refusal 19 of 01's 'Refusals from the state', as a test. `fit_means` of proofs/Fits ties it to `Sound`. Definitions only.
use Rattle.std.specs.Prelude.{ℕ, ◌+◌, ◌*◌, Bool, true, false, ◌&&◌, eqb, leb, ltb}
use Rattle.setup.specs.declared.GwrBandwidth.{GwrBandwidth}
use Rattle.setup.specs.declared.GwrBandwidth.TheVariants.{Fixed, AdaptiveKnn}
use Rattle.setup.specs.declared.Setup.{Setup}
use Rattle.stepping.specs.declared.Stage.{Stage}
use Rattle.stepping.specs.declared.Stage.TheVariants.{First, Second, Round, Final, Ended}
use Rattle.stepping.specs.declared.Job.{Job}
use Rattle.stepping.specs.Step.{ended_solve}

-- 1 ≤ n ≤ 512, p ≤ 7, n ≥ p + 1, location < n; n ≥ 1 follows from n ≥ p + 1
unfoldable pub sizes_fit : Setup → ℕ → Bool
sizes_fit u location = leb u.n 512 && (leb u.p 7 && (leb (u.p + 1) u.n && ltb location u.n))

-- the current bandwidth is of the options' kind, with any count in 1..512
unfoldable pub kinds_fit : GwrBandwidth → GwrBandwidth → Bool
kinds_fit (Fixed a) (Fixed b) = true
kinds_fit (Fixed a) (AdaptiveKnn k) = false
kinds_fit (AdaptiveKnn j) (Fixed b) = false
kinds_fit (AdaptiveKnn j) (AdaptiveKnn k) = leb 1 k && leb k 512

-- trials are 0 in the first trial, 1 in the second, 2 to 101 in a round, at most 102 in the final fit or ended
unfoldable pub trials_fit : Stage → ℕ → Bool
trials_fit First t = eqb t 0
trials_fit Second t = eqb t 1
trials_fit Round t = leb 2 t && leb t 101
trials_fit Final t = leb t 102
trials_fit (Ended c) t = leb t 102

-- solves ≤ trials × n + location, plus 1 once ended
unfoldable pub solves_fit : Job → Bool
solves_fit j = leb j.solves (j.trials.made * j.setup.n + j.sweep.location + ended_solve j.stage)

-- a record is fit exactly when all of these hold
unfoldable pub is_fit : Job → Bool
is_fit j =
    sizes_fit j.setup j.sweep.location
    && (kinds_fit j.setup.options.bandwidth j.bandwidth && (trials_fit j.stage j.trials.made && solves_fit j))
