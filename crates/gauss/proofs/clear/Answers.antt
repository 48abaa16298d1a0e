-- `gauss::clear` meets its contract.
use borrow.Author.Rules.{rules}
use Rattle.gauss.proofs.Rows.{uncleared, clearing}
use Rattle.gauss.proofs.clear.Goals as goal

pub loop-k-init : goal.loop-k-init
loop-k-init c = uncleared _ _ _ _

pub loop-k-preserved : goal.loop-k-preserved
loop-k-preserved c = clearing c.loop-k.row-items _ c.loop-k.invariant (search rules) (search rules) c.clear_row.ensures
