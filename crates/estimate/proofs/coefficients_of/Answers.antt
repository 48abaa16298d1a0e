-- `estimate::coefficients_of` meets its contract: the loop's cells, with the others behind them, are the fold of `coefficient_step` up to p.
use borrow.Author.Rules.{rules}
use mathlib.Core.Path.{refl}
use lib.Ieee.{nan}
use Rattle.real.proofs.Fronts.{untouched, changed}
use Rattle.estimate.specs.Inverse.{inverse_times}
use Rattle.estimate.specs.Estimate.{coefficient_step}
use Rattle.estimate.proofs.coefficients_of.Goals as goal

pub loop-p-init : goal.loop-p-init
loop-p-init c = untouched _ _

pub loop-p-preserved : goal.loop-p-preserved
unfolding coefficient_step
loop-p-preserved c =
    let s = c.args in
    changed (λ k x. inverse_times s.a.now s.m k s.rhs) nan (λ k s. refl) c.loop-p.b-items _ _ c.loop-p.invariant (search rules) (search rules) c.inverse_times.ensures
