-- The corrected Akaike information criterion, as `corrected_aic` of 000 and the paragraph 'AICc' of 01 have it. Definitions only.
use Rattle.std.specs.Prelude.{ℕ, Bool, cond, from_bits, Float, Result, Ok, Err}
use Rattle.std.specs.Float.{binary64}
use Rattle.std.specs.Float.Ieee.{le}
use Rattle.std.specs.Float.Ieee.Scale.{finite}
use Rattle.real.specs.Reals.{zero64, eps64, least_normal, inf64, from_count, magnitude}
use Rattle.real.specs.Arithmetic.{rounded}
use Rattle.root.specs.Root.{root}
use Rattle.elementary.specs.Ln.{lnv}
use Rattle.setup.specs.declared.GwrCriterion.{GwrCriterion}
use Rattle.setup.specs.declared.GwrCriterion.TheVariants.{Unguarded, Guarded}
use Rattle.setup.specs.declared.Setup.{Setup}
use Rattle.refusal.specs.declared.Refusal.{Refusal}
use Rattle.refusal.specs.declared.Refusal.TheVariants.{DeviationNotFinite}
use Rattle.criterion.specs.declared.Summary.{Summary}
use Rattle.criterion.specs.Published.{deviation, freedom, aicc_formula}

-- π, 000's `std::f64::consts::PI`
abbrev pub pi64 : Float
pi64 = from_bits binary64 0x4009_21FB_5444_2D18

-- 000's `safe_sigma`: a root of mean square of 0 is replaced by 2^-1022
unfoldable pub floored : Float → Float
floored sigma = cond (le sigma zero64) least_normal sigma

-- 01: if |D| ≤ EPS it is +infinity; 02: guarded, if D ≤ EPS
unfoldable pub exhausted : GwrCriterion → Float → Bool
exhausted Unguarded d = le (magnitude d) eps64
exhausted Guarded d = le d eps64

-- 000's `aicc` of a root of mean square that is finite: the published formula with each operation rounded once and ln by document 01's steps; any other D, NaN among them, is worked as it falls
unfoldable pub criterion_of : GwrCriterion → Float → Float → Float → Float
criterion_of c nf sigma trace = cond (exhausted c (freedom rounded nf trace)) inf64 (aicc_formula rounded pi64 lnv nf (floored sigma) trace)

-- 000's `corrected_aic`, of a job's setup, the sum of squared residuals and the trace; refusal 17 where the root of mean square is not finite
unfoldable pub corrected_aic : Setup → Float → Float → Result Float Refusal
corrected_aic u rss trace =
    let sigma = deviation rounded root (from_count u.n) rss in
    cond (finite sigma) (Ok (criterion_of u.options.criterion (from_count u.n) sigma trace)) (Err DeviationNotFinite)

-- 000's `evaluate_aicc`: a trial's score is its AICc, or +infinity if AICc is refused or not finite
unfoldable pub score_of : Result Float Refusal → Float
score_of (Ok v) = cond (finite v) v inf64
score_of (Err r) = inf64

-- 01, 'Met while solving': the summary is zeros but for the solve count
abbrev pub failed_summary : ℕ → Summary
failed_summary solves = record { bandwidth = zero64; aicc = zero64; solves = solves }
