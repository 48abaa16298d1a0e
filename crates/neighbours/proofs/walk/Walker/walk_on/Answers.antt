-- `neighbours::walk::Walker::walk_on` meets its contract: the walk up to j.
use native.Mathlib.Omega.{arith}
use Rattle.real.proofs.Fold.{none, more, done}
use Rattle.neighbours.specs.Walk.{walk_on, squares_from}
use Rattle.neighbours.proofs.Walks.{pass_few}
use Rattle.neighbours.proofs.walk.Walker.walk_on.Goals as goal

pub loop-j-init : goal.loop-j-init
loop-j-init c = (none (omega arith), omega arith)

pub loop-j-preserved : goal.loop-j-preserved
loop-j-preserved c =
    let a = c.args in
    let few = (pass_few a.own (squares_from a.coords.now a.place.east a.place.north) c.loop-j.j c.loop-j.self).1 in
    (more c.loop-j.invariant.0 (omega arith) c.pass.ensures, rw c.pass.ensures (omega (arith, few, c.loop-j.invariant.1)))

pub returns : goal.returns
unfolding walk_on
returns c = done c.loop-j.invariant.0 (omega arith)
