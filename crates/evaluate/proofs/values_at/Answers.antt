-- `evaluate::values_at` meets its contract: each value is its definition.
use Rattle.evaluate.proofs.Sums.{fitted_at}
use Rattle.evaluate.specs.Evaluate.{values_at}
use Rattle.evaluate.proofs.values_at.Goals as goal

pub returns : goal.returns
unfolding values_at
returns c =
    let q = c.args.sample.now in
    let own = rw (c.predictors-x.ensures.predictors, c.setup-u.ensures.setup) at c.predictors_of.ensures in
    let f = fitted_at q.columns.predictors q.setup.n q.setup.p c.args.i c.setup-u.ensures.shaped.rows c.requires own _ c.fitted-predicted.ensures in
    let row = rw (c.predictors-x.ensures.predictors, c.setup-u.ensures.setup) at c.design_row-row.ensures in
    rw (c.hat_diagonal.ensures, c.local_r_squared.ensures, f, row, c.responses-y.ensures, c.setup-u.ensures.setup)
