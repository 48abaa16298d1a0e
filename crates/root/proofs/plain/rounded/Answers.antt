-- `root::plain::rounded` meets its contract: q rises where what is left is more than q.
use native.Mathlib.Omega.{arith}
use Rattle.root.proofs.Squares.{rises, stays}
use Rattle.root.proofs.plain.rounded.Goals as goal

pub returns-then-r : goal.returns-then-r
returns-then-r c = rises (omega arith) c.requires.rooted c.if-r.true

pub returns-else-r : goal.returns-else-r
returns-else-r c = stays (omega arith) c.requires.rooted c.if-r.false
