-- `bounds::greatest_distance` meets its contract: each loop's number is the fold as far as it has come.
use Rattle.std.proofs.Common.{◌+◌}
use Rattle.real.proofs.Fold.{Range}
use Rattle.real.specs.Reals.{zero64}
use Rattle.bounds.specs.Bounds.{farther_pair, farther_from}
use Rattle.bounds.proofs.greatest_distance.Given as goal

abbrev pub invariant-loop-i : goal.invariant-loop-i
invariant-loop-i l = Range (farther_from l.coords l.n) zero64 0 l.n l.i l.most

abbrev pub invariant-loop-j : goal.invariant-loop-j
invariant-loop-j l = Range (farther_pair l.coords l.i) l.initial.most (l.i + 1) l.n l.j l.most
