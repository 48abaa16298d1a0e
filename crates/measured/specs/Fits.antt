-- A fit of numbers by either criterion, and what is seen of its answer. Definitions only.
use Rattle.std.specs.Prelude.{ℕ, List, cond, eqb, set, Float, Result, Ok, Err}
use Rattle.refusal.specs.Numbers.{refusal_number}
use Rattle.refusal.specs.declared.Refusal.{Refusal}
use Rattle.setup.specs.declared.GwrOptions.{GwrOptions}
use Rattle.setup.specs.declared.GwrCriterion.{GwrCriterion}
use Rattle.setup.specs.declared.GwrCriterion.TheVariants.{Unguarded, Guarded}
use Rattle.setup.specs.Data.{Data}
use Rattle.setup.specs.Options.{judged_by}
use Rattle.criterion.specs.declared.Summary.{Summary}
use Rattle.sweep.specs.Finish.{finish_number}
use Rattle.gwr.specs.declared.Fit.{Fit}
use Rattle.gwr.specs.Fit.{gwr_fit}
use Rattle.request.specs.Options.{options_of}

-- 0 unguarded, any other guarded
unfoldable pub criterion_by : ℕ → GwrCriterion
criterion_by c = cond (eqb c 0) Unguarded Guarded

-- a refusal's number or 0, bandwidth and AICc, solves and rows written
abbrev pub Seen : Type 0
Seen = ℕ × (List Float × List ℕ)

unfoldable pub told_of : ℕ → Summary → ℕ → List Float → List ℕ → Seen
told_of number s rows reals counts = (number, (set (set reals 0 s.bandwidth) 1 s.aicc, set (set counts 0 s.solves) 1 rows))

-- a refusal from the input leaves both as they are
abbrev pub seen_of : Result Fit Refusal → List Float → List ℕ → Seen
seen_of (Ok f) reals counts = told_of (finish_number f.finish) f.finish.summary f.rows reals counts
seen_of (Err r) reals counts = (refusal_number r, (reals, counts))

-- of a fit and its output, the output last
abbrev pub fit_seen : Result Fit Refusal × List Float → List Float → List ℕ → Seen × List Float
fit_seen f reals counts = (seen_of f.0 reals counts, f.1)

-- options of the byte call's numbers; `options_of` gives 18 where they are unknown
abbrev pub chosen_fit : Result GwrOptions Refusal → Data → ℕ → GwrCriterion → List Float → List Float → List ℕ → Seen × List Float
chosen_fit (Ok o) d p c out reals counts = fit_seen (gwr_fit d p (judged_by c o) out) reals counts
chosen_fit (Err r) d p c out reals counts = ((refusal_number r, (reals, counts)), out)

unfoldable pub judged_fit : Data → ℕ → ℕ → ℕ → ℕ → ℕ → List Float → List Float → List ℕ → Seen × List Float
judged_fit d p kernel kind bandwidth criterion out reals counts = chosen_fit (options_of kernel kind bandwidth) d p (criterion_by criterion) out reals counts
