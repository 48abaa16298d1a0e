-- `mapped::settle_each` meets its contract.
use mathlib.Core.Path.{◌≡◌}
use Rattle.root.specs.Root.{root}
use Rattle.mapped.proofs.Mapping.{Mapping}
use Rattle.mapped.proofs.settle_each.Given as goal

abbrev pub invariant-loop-i : goal.invariant-loop-i
invariant-loop-i l = Mapping (λ x y. y ≡ root x) l.initial.values l.i l.values
