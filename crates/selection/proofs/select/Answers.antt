-- `selection::select` meets its contract: no more numbers than there are stand below the one found.
use borrow.Author.Rules.{rules}
use Rattle.selection.proofs.Counts.{few_below}
use Rattle.selection.proofs.select.Goals as goal

pub from_count-requires : goal.from_count-requires
from_count-requires c = few_below _ c.greatest_below-v.result (search rules) c.requires
