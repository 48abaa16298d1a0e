-- `search::seeking::golden_section_min`: the search is the fold of its rounds so far, and the entries in use are right.
use borrow.Author.Rules.{rules}
use mathlib.Core.Path.{ap, subst⁻¹, ◌∙◌}
use native.Mathlib.Omega.{arith}
use Rattle.real.proofs.Fold.{Range, none, more, done}
use Rattle.golden.specs.Golden.{start_of}
use Rattle.search.specs.declared.Search.{Search}
use Rattle.search.specs.Search.{round_of, opened_of, golden_of}
use Rattle.search.proofs.Solves.{rounds_made}
use Rattle.search.proofs.Searches.{over_rest, opened_on}
use Rattle.search.proofs.Memos.{forgotten}
use Rattle.search.proofs.seeking.golden_section_min.Goals as goal

pub opened_of-s-requires : goal.opened_of-s-requires
opened_of-s-requires c = record { few = c.requires; remembered = forgotten _ _ }

pub loop-round-init : goal.loop-round-init
loop-round-init c =
    let a = c.args in
    let p = a.problem.now in
    let opened = c.opened_of-s.ensures.value ∙ ap (opened_of p.setup p.columns) c.start-g.ensures in
    (subst⁻¹ (λ (s : Search). Range (round_of p.setup p.columns) (opened_of p.setup p.columns (start_of a.lo a.hi)) 0 100 0 s) opened (none (omega arith)), opened_on _ _ _ _ c.opened_of-s.ensures.value, c.opened_of-s.ensures.still_remembered)

pub round_of-s-requires : goal.round_of-s-requires
round_of-s-requires c =
    record { few = c.requires; remembered = c.loop-round.invariant.2; going = c.loop-round.invariant.1; few_solves = rounds_made _ _ c.requires _ _ _ c.loop-round.invariant.0.is c.loop-round.invariant.0.high }

pub loop-round-preserved : goal.loop-round-preserved
loop-round-preserved c =
    (more c.loop-round.invariant.0 (search rules) (c.round_of-s.ensures.value _), c.if-s.false, c.round_of-s.ensures.still_remembered)

pub returns-then-s : goal.returns-then-s
unfolding golden_of
returns-then-s c =
    let r = more c.loop-round.invariant.0 (search rules) (c.round_of-s.ensures.value _) in
    over_rest _ _ _ _ _ r.high c.if-s.true r.is

pub returns : goal.returns
unfolding golden_of
returns c = done c.loop-round.invariant.0 (search rules)
