-- `normal::equations::observe` meets its contract: the first row apart, then the loop is the fold of `observe_step` from row 1 on.
use Prim.Native.Nat.{◌+◌}
use lib.ListN.{length}
use Rattle.real.proofs.Fold.{Range}
use Rattle.normal.specs.Design.{design_of}
use Rattle.normal.specs.Equations.{observe_step}
use Rattle.normal.proofs.equations.observe.Given as goal

abbrev pub invariant-loop-q : goal.invariant-loop-q
invariant-loop-q l =
    Range (observe_step l.w (design_of l.own) l.y (length l.own + 1)) l.initial.e 1 (length l.own + 1) (l.q + 1) l.e
