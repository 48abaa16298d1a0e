-- `measured::play`: record and output are the fold up to i.
use mathlib.Core.Path.{◌≡◌}
use lib.ListN.{length}
use Rattle.real.proofs.Fold.{Range}
use Rattle.measured.specs.Turns.{turn_by}
use Rattle.measured.proofs.play.Given as goal

abbrev pub invariant-loop-i : goal.invariant-loop-i
invariant-loop-i l =
    Range (turn_by l.columns l.allowance) (l.initial.k, l.initial.out) 0 l.turns l._i (l.k, l.out) × (length l.out ≡ length l.initial.out)
