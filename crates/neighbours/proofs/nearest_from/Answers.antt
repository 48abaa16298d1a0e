-- `neighbours::nearest_from` meets its contract: a walk over all pantries, and what it gives.
use Rattle.neighbours.specs.Walk.{nearest_from}
use Rattle.neighbours.proofs.nearest_from.Goals as goal

pub returns : goal.returns
unfolding nearest_from
returns c = rw (c.found_by.ensures, c.walk_on.ensures, c.new-walk.ensures)
