-- `gauss::eliminate` meets its contract.
use Rattle.std.specs.Prelude.{Ok}
use Rattle.real.proofs.Fold.{Range}
use Rattle.gauss.specs.Gauss.{try_step}
use Rattle.gauss.proofs.eliminate.Given as goal

abbrev pub invariant-loop-i : goal.invariant-loop-i
invariant-loop-i l = Range (try_step l.n l.m) (Ok l.initial.a) 0 l.n l.i (Ok l.a)
