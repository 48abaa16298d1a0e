-- `evaluate::sum_squares` meets its contract: the loop's sums are the fold of `squares_step` up to j; an observation that weighs nothing is passed by.
use native.Mathlib.Omega.{arith}
use Rattle.setup.specs.declared.Setup.{Setup}
use mathlib.Core.Path.{ap, ◌∙◌}
use Rattle.real.proofs.Fold.{more}
use Rattle.evaluate.proofs.Sums.{fitted_at}
use Rattle.evaluate.specs.Evaluate.{squares_step}
use Rattle.evaluate.proofs.sum_squares.Goals as goal

-- left out
pub loop-j-preserved-then-w-j : goal.loop-j-preserved-then-w-j
unfolding squares_step
loop-j-preserved-then-w-j c =
    let n = ap (λ (u : Setup). u.n) c.setup-u.ensures.setup in more c.loop-j.invariant (omega (arith, n)) (rw c.if-w-j.true)

pub loop-j-preserved : goal.loop-j-preserved
unfolding squares_step
loop-j-preserved c =
    let n = ap (λ (u : Setup). u.n) c.setup-u.ensures.setup in
    let q = c.args.sample.now in
    let own = rw (c.predictors-x.ensures.predictors, c.setup-u.ensures.setup) at c.predictors_of-own.ensures in
    let f = fitted_at q.columns.predictors q.setup.n q.setup.p c.loop-j.j c.setup-u.ensures.shaped.rows (omega (arith, n)) own _ c.fitted.ensures in
    more c.loop-j.invariant (omega (arith, n)) (c.add_squares-s.ensures ∙ rw (c.if-w-j.false, f, c.responses-y.ensures))
