-- `weights::near::weigh_within` meets its contract: its loop is the fold of `weigh_step`.
use mathlib.Core.List.{◌++◌}
use lib.ListN.{length, drop}
use Rattle.real.proofs.Fold.{Range}
use Rattle.real.specs.Reals.{zero64}
use Rattle.weights.specs.Weights.{weigh_step}
use Rattle.weights.specs.Near.{near_weight}
use Rattle.weights.proofs.near.weigh_within.Given as goal

abbrev pub invariant-loop-j : goal.invariant-loop-j
invariant-loop-j l =
    Range (weigh_step (near_weight l.kernel l.coords l.trusts l.place.east l.place.north l.b)) (l.fn.w, zero64) 0 (length l.trusts) l.j (l.v-items ++ drop (length l.trusts) l.fn.w, l.sum)
