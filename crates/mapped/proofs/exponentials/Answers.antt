-- `mapped::exponentials` meets its contract.
use Rattle.std.proofs.lemmas.Slice.Zip.{AllZip-map}
use Rattle.elementary.specs.Exp.{expv}
use Rattle.mapped.proofs.exponentials.Goals as goal

pub returns : goal.returns
returns c = AllZip-map expv _ _ c.map_each.ensures
