-- What an accepted job does, from its options: a final fit at once, or a search first. Definitions only.
use Rattle.std.specs.Prelude.{ℕ, cond, leb, Float, Result, Ok, Err}
use Rattle.std.specs.Float.Ieee.{le}
use Rattle.real.specs.Reals.{from_count}
use Rattle.refusal.specs.declared.Refusal.{Refusal}
use Rattle.setup.specs.declared.GwrBandwidth.{GwrBandwidth}
use Rattle.setup.specs.declared.GwrBandwidth.TheVariants.{Fixed, AdaptiveKnn}
use Rattle.setup.specs.declared.GwrOptions.{GwrOptions}
use Rattle.setup.specs.declared.Setup.{Setup}
use Rattle.setup.specs.Data.{Data}
use Rattle.setup.specs.Shape.{setup_of}
use Rattle.counts.specs.Count.{resolve_count}
use Rattle.checks.specs.Judge.{Check, judge, ruled}
use Rattle.plan.specs.declared.Plan.{Plan}
use Rattle.plan.specs.declared.Plan.TheVariants.{Settled, Sought}
use Rattle.bounds.specs.Bounds.{greatest_distance, least_distance, least_count, greatest_count}
use Rattle.input.specs.Checks.{option_tests_at, fit_tests}

-- 000's `resolve_initial_bandwidth`, its default count apart: the distance given, or what the count becomes
unfoldable pub resolve_initial_bandwidth : GwrBandwidth → ℕ → ℕ → GwrBandwidth
resolve_initial_bandwidth (Fixed b) n p = Fixed b
resolve_initial_bandwidth (AdaptiveKnn k) n p = AdaptiveKnn (resolve_count k n p)

-- 01: if lo ≥ hi the answer is lo with no trial
unfoldable pub distance_plan : Float → Float → Plan
distance_plan lo hi = cond (le hi lo) (Settled (Fixed lo)) (Sought lo hi)

-- 01: if L ≥ H the answer is L with no trial
unfoldable pub count_plan : ℕ → ℕ → Plan
count_plan n p =
    cond (leb (greatest_count n p) (least_count p)) (Settled (AdaptiveKnn (least_count p)))
    (Sought (from_count (least_count p)) (from_count (greatest_count n p)))

-- 01: searching ignores the value given in the options and uses only its kind
unfoldable pub search_plan : GwrBandwidth → Float → ℕ → ℕ → Plan
search_plan (Fixed b) hi n p = distance_plan (least_distance hi n) hi
search_plan (AdaptiveKnn k) hi n p = count_plan n p

-- what the options ask for, where hi is the greatest pair distance
unfoldable pub plan_at : Setup → Float → Plan
plan_at u hi =
    cond u.options.optimize_bandwidth (search_plan u.options.bandwidth hi u.n u.p)
    (Settled (resolve_initial_bandwidth u.options.bandwidth u.n u.p))

abbrev pub plan_of : Setup → Data → Plan
plan_of u d = plan_at u (greatest_distance d.coords u.n)

-- what is said of an input: what the job does, or the first refusal
abbrev pub Acceptance : Type 0
Acceptance = Result Plan Refusal

-- the plan of an input that a check passes
abbrev pub accepted : Check → Plan → Acceptance
accepted k q = ruled k Err (Ok q)

-- 11, 12, then the plan, where hi is the greatest pair distance
unfoldable pub plan_options_at : Setup → Float → Acceptance
plan_options_at u hi = accepted (judge (option_tests_at u.options hi)) (plan_at u hi)

abbrev pub plan_options : Setup → Data → Acceptance
plan_options u d = plan_options_at u (greatest_distance d.coords u.n)

-- 01's order: 1 to 7, 8 to 10, 26, 13, 11, 12, then the plan. out is the output's length
unfoldable pub accept_of : Data → ℕ → GwrOptions → ℕ → Acceptance
accept_of d p o out = accepted (judge (fit_tests d p o out)) (plan_of (setup_of d p o) d)
