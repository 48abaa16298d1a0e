-- `neighbours::walk::Walker::found_by` meets its contract: by the sum selected, or by the greatest where that is zero.
use Rattle.neighbours.proofs.Walks.{found_root, found_greatest}
use Rattle.neighbours.proofs.walk.Walker.found_by.Goals as goal

pub returns-then-s : goal.returns-then-s
returns-then-s c = found_root _ _ c.sums.ensures.sums c.greatest-greatest.ensures c.select-s.ensures c.if-s.true c.sqrt.ensures

pub returns : goal.returns
returns c = found_greatest _ _ c.sums.ensures.sums c.greatest-greatest.ensures c.select-s.ensures c.if-s.false c.sqrt-2.ensures c.max.ensures
