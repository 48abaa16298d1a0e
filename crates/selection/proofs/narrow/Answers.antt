-- `selection::narrow` meets its contract: no more numbers than there are stand below a cut.
use borrow.Author.Rules.{rules}
use Rattle.selection.proofs.Counts.{few_below}
use Rattle.selection.proofs.narrow.Goals as goal

pub from_count-below-requires : goal.from_count-below-requires
from_count-below-requires c = few_below _ c.part-at.result (search rules) c.requires.0
