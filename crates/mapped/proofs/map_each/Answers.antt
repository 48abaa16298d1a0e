-- `mapped::map_each` meets its contract.
use borrow.Author.Rules.{rules}
use Rattle.mapped.proofs.Mapping.{next}
use Rattle.mapped.proofs.map_each.Goals as goal

pub loop-v-preserved : goal.loop-v-preserved
loop-v-preserved g c = next c.loop-v.invariant (search rules) c.f.ensures
