-- `mapped::settle_each` meets its contract.
use borrow.Author.Rules.{rules}
use Rattle.std.proofs.lemmas.Slice.Zip.{AllZip-map}
use Rattle.root.specs.Root.{root}
use Rattle.mapped.proofs.Mapping.{next, done}
use Rattle.mapped.proofs.settle_each.Goals as goal

pub loop-i-preserved : goal.loop-i-preserved
loop-i-preserved c = next c.loop-i.invariant (search rules) c.sqrt_near.ensures

pub returns : goal.returns
returns c = AllZip-map root _ _ (done c.loop-i.invariant c.loop-i.auto.i-end (search rules))
