-- `weights::near::weigh_all` meets its contract: its loop is the fold of `weigh_step`, over kernel weights made before it.
use mathlib.Core.List.{◌++◌}
use lib.ListN.{length, drop}
use Rattle.real.proofs.Fold.{Range}
use Rattle.real.specs.Reals.{zero64}
use Rattle.weights.specs.Weights.{weigh_step}
use Rattle.weights.specs.Near.{trusted_over}
use Rattle.weights.proofs.near.weigh_all.Given as goal

abbrev pub invariant-loop-j : goal.invariant-loop-j
invariant-loop-j l = Range (weigh_step (trusted_over l.y l.trusts)) (l.fn.w, zero64) 0 (length l.trusts) l.j (l.v-items ++ drop (length l.trusts) l.fn.w, l.sum)
