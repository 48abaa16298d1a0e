-- `gauss::div_row` meets its contract: the loop's cells, with the others behind them, are the fold of `div_step` so far.
use borrow.Author.Rules.{rules}
use mathlib.Core.Path.{refl}
use lib.Ieee.{binary64, div, nan}
use Rattle.real.proofs.Fronts.{changed}
use Rattle.gauss.specs.Gauss.{div_step}
use Rattle.gauss.proofs.div_row.Goals as goal

pub loop-x-preserved : goal.loop-x-preserved
unfolding div_step
loop-x-preserved c = changed (λ k x. div binary64 x c.args.v) nan (λ k s. refl) c.loop-x.x-items _ _ c.loop-x.invariant (search rules) (search rules) refl
