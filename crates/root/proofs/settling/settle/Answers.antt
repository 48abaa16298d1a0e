-- `root::settling::settle` meets its contract.
use native.Mathlib.Omega.{arith}
use Rattle.root.proofs.Squares.{chosen}
use Rattle.root.proofs.settling.settle.Goals as goal

pub returns-then-r-g : goal.returns-then-r-g
returns-then-r-g c =
    chosen c.args.a c.args.g _ _ _ c.requires.1 (omega arith) (c.excess-r.ensures.0 (omega arith))
    c.from-up.ensures c.from-down.ensures c.if-r-g-gt72057594037927938.true c.if-r-g.true
