-- The bandwidth search: 000's `golden_section_min` over trials. Definitions only.
use Rattle.std.specs.Prelude.{ℕ, ◌+◌, false, cond, Float}
use Rattle.real.specs.Fold.{range}
use Rattle.setup.specs.declared.Setup.{Setup}
use Rattle.setup.specs.Data.{Data}
use Rattle.golden.specs.declared.Bracket.{Bracket}
use Rattle.golden.specs.Golden.{start_of, first_of, second_of, aim_of, narrow_of, tight_of}
use Rattle.bounds.specs.Bounds.{bandwidth_at}
use Rattle.search.specs.declared.Trial.{Trial}
use Rattle.search.specs.declared.Search.{Search}
use Rattle.search.specs.declared.Optimum.{Optimum}
use Rattle.search.specs.Trial.{trial_of}

-- before the rounds: `fc = f(c)`, `fd = f(d)`
abbrev pub scored_of : Bracket → Trial → Trial → Search
scored_of g first second =
    record { bracket = second_of (first_of g first.score) second.score; over = false; solves = first.solves + second.solves }

unfoldable pub opened_of : Setup → Data → Bracket → Search
opened_of u d g = scored_of g (trial_of u d g.c) (trial_of u d g.d)

-- a round's trial scored so: 000's loop body, and its test for leaving
abbrev pub round_with : Search → Trial → Search
round_with s t =
    let g = narrow_of s.bracket t.score in
    record { bracket = g; over = tight_of g; solves = s.solves + t.solves }

-- one round of `for _ in 0..100`, or nothing once the loop was left
unfoldable pub round_of : Setup → Data → ℕ → Search → Search
round_of u d r s = cond s.over s (round_with s (trial_of u d (aim_of s.bracket)))

-- 000's `golden_section_min` from lo to hi: `golden_literal` of proofs/Literal says that it is the `golden_section_min` of specs/Literal
unfoldable pub golden_of : Setup → Data → Float → Float → Search
golden_of u d lo hi = range (round_of u d) 0 100 (opened_of u d (start_of lo hi))

-- 01: the final fit is at the point that `golden_section_min` finds
abbrev pub optimum_of : Setup → Search → Optimum
optimum_of u s = record { bandwidth = bandwidth_at u s.bracket.best; solves = s.solves }

-- 000's `optimize_bandwidth` from lo to hi, with the solves of its trials
unfoldable pub optimize_bandwidth : Setup → Data → Float → Float → Optimum
optimize_bandwidth u d lo hi = optimum_of u (golden_of u d lo hi)
