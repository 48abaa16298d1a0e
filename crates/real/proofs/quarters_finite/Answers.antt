-- `real::quarters_finite` meets its contract.
use Rattle.std.proofs.Common.{rules}
use lib.Ieee.Scale.{finite}
use Rattle.real.proofs.Finite.{more_fours, all_fours}
use Rattle.real.proofs.quarters_finite.Goals as goal

pub loop-i-preserved : goal.loop-i-preserved
loop-i-preserved c =
    more_fours finite _ _ (search rules) c.loop-i.i c.loop-i.good _ c.loop-i.invariant (search rules) (rw c.four_finite-good.ensures)

pub returns : goal.returns
returns c =
    all_fours finite _ _ (search rules) c.loop-i.i c.loop-i.good c.loop-i.invariant (search rules)
