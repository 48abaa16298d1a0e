-- `normal::equations::equations_of` meets its contract: the loop's sums are the fold of `normal_step` up to j; an observation that weighs nothing is passed by.
use native.Mathlib.Omega.{arith}
use Rattle.setup.specs.declared.Setup.{Setup}
use mathlib.Core.Path.{ap, ◌∙◌}
use Rattle.normal.proofs.DesignCells.{observed}
use Rattle.real.proofs.Fold.{more}
use Rattle.normal.specs.Equations.{normal_step}
use Rattle.normal.proofs.equations.equations_of.Goals as goal

-- left out
pub loop-j-preserved-then-w-j : goal.loop-j-preserved-then-w-j
unfolding normal_step
loop-j-preserved-then-w-j c =
    let n = ap (λ (u : Setup). u.n) c.setup-u.ensures.setup in more c.loop-j.invariant (omega (arith, n)) (rw c.if-w-j.true)

pub loop-j-preserved : goal.loop-j-preserved
unfolding normal_step
loop-j-preserved c =
    let n = ap (λ (u : Setup). u.n) c.setup-u.ensures.setup in
    let q = c.args.sample.now in
    let own = rw (c.predictors-x.ensures.predictors, c.setup-u.ensures.setup) at c.predictors_of.ensures in
    more c.loop-j.invariant (omega (arith, n))
    (observed q.columns.predictors q.setup.n q.setup.p c.loop-j.j c.setup-u.ensures.shaped.rows (omega (arith, n)) own _ _ _ c.observe.ensures ∙ rw (c.if-w-j.false, c.responses-y.ensures))
