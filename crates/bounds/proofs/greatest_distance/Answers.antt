-- `bounds::greatest_distance` meets its contract: each loop's number is the fold as far as it has come.
use Rattle.std.proofs.Common.{rules}
use Rattle.real.proofs.Fold.{none, more, done}
use Rattle.bounds.specs.Bounds.{farther_pair, farther_from, greatest_distance}
use Rattle.bounds.proofs.greatest_distance.Goals as goal

pub loop-i-init : goal.loop-i-init
loop-i-init c = none (search rules)

pub loop-j-init : goal.loop-j-init
loop-j-init c = none (search rules)

pub loop-j-preserved : goal.loop-j-preserved
unfolding farther_pair
loop-j-preserved c = more c.loop-j.invariant (search rules) (rw (c.max-most.ensures, c.distance.ensures, c.at-here.ensures, c.at.ensures))

pub loop-i-preserved : goal.loop-i-preserved
unfolding farther_from
loop-i-preserved c = more c.loop-i.invariant (search rules) (done c.loop-j.invariant (search rules))

pub returns : goal.returns
unfolding greatest_distance
returns c = done c.loop-i.invariant (search rules)
