-- `real::rest_finite` meets its contract.
use Rattle.std.proofs.Common.{rules}
use Rattle.real.proofs.Finite.{times_none, times_more, times_done}
use Rattle.real.proofs.rest_finite.Goals as goal

pub loop-x-init : goal.loop-x-init
loop-x-init c = times_none

pub loop-x-preserved : goal.loop-x-preserved
loop-x-preserved c = times_more c.loop-x.invariant (search rules)

pub returns : goal.returns
returns c = times_done c.loop-x.invariant (search rules)
