-- `root::sqrt_near` meets its contract: its tests are the definition's.
use mathlib.Core.Path.{sym, ◌∙◌}
use lib.Ieee.{of_bits, div}
use Rattle.root.specs.Root.{root}
use Rattle.root.proofs.Nearest.{root_is, root_end}
use Rattle.root.proofs.sqrt_near.Goals as goal

pub returns-then-x-2 : goal.returns-then-x-2
unfolding of_bits
returns-then-x-2 c = c.positive.ensures ∙ sym (root_is _ c.if-x.true c.if-x-2.true)

pub returns-then-x : goal.returns-then-x
unfolding of_bits
returns-then-x c = sym (root_end _ c.if-x.true c.if-x-2.false)

pub returns-then-x-3 : goal.returns-then-x-3
unfolding root of_bits div
returns-then-x-3 c = sym (rw c.if-x-3.true)
