-- `gauss::less_row` meets its contract: the loop's cells, with the others behind them, are the fold of `less_step` so far.
use borrow.Author.Rules.{rules}
use mathlib.Core.Path.{refl}
use lib.ListN.{get_or}
use lib.Ieee.{binary64, mul, sub, nan}
use Rattle.real.proofs.Fronts.{changed}
use Rattle.gauss.specs.Gauss.{less_step}
use Rattle.gauss.proofs.less_row.Goals as goal

pub loop-j-preserved : goal.loop-j-preserved
unfolding less_step
loop-j-preserved c = changed (λ k x. sub binary64 x (mul binary64 c.args.v (get_or c.args.by.now k nan))) nan (λ k s. refl) c.loop-j.x-items _ _ c.loop-j.invariant (search rules) (search rules) refl
