-- `kernel::weigh_distance` meets its contract. Written out, as that of `squares`.
use mathlib.Core.Path.{sym, ap, ◌∙◌}
use Rattle.std.specs.Prelude.{Some}
use Rattle.kernel.specs.Weight.{weighed}
use Rattle.kernel.proofs.weigh_distance.Goals as goal

pub returns-then-d : goal.returns-then-d
unfolding weighed
returns-then-d c = ap Some c.weight.ensures ∙ sym (rw c.if-d.true)

pub returns-else-d : goal.returns-else-d
unfolding weighed
returns-else-d c = sym (rw c.if-d.false)
