-- `mapped::map_each` meets its contract.
use Rattle.mapped.proofs.Mapping.{Mapping}
use Rattle.mapped.proofs.map_each.Given as goal

abbrev pub invariant-loop-v : goal.invariant-loop-v
invariant-loop-v g l = Mapping (λ x y. goal.F-post g l.f x y) l.initial.values l.v-index l.values
