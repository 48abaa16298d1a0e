-- `search::seeking::golden_section_min`: the search is the fold of its rounds so far, and the entries in use are right.
use mathlib.Core.Path.{◌≡◌}
use mathlib.Core.Bool.{false}
use Rattle.real.proofs.Fold.{Range}
use Rattle.golden.specs.Golden.{start_of}
use Rattle.search.specs.Memo.{Remembered}
use Rattle.search.specs.Search.{round_of, opened_of}
use Rattle.search.proofs.seeking.golden_section_min.Given as goal

abbrev pub invariant-loop-round : goal.invariant-loop-round
invariant-loop-round l =
    let p = l.problem in
    Range (round_of p.setup p.columns) (opened_of p.setup p.columns (start_of l.lo l.hi)) 0 100 l._round l.s × (l.s.over ≡ false) × Remembered p.setup p.columns l.tried
