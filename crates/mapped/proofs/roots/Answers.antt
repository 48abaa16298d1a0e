-- `mapped::roots` meets its contract.
use Rattle.std.proofs.lemmas.Slice.Zip.{AllZip-map}
use Rattle.root.specs.Root.{root}
use Rattle.mapped.proofs.roots.Goals as goal

pub returns : goal.returns
returns c = AllZip-map root _ _ c.map_each.ensures
