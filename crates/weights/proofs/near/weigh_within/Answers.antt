-- `weights::near::weigh_within` meets its contract: its loop is the fold of `weigh_step`.
use borrow.Author.Rules.{rules}
use Rattle.kernel.proofs.Reaches.{distance_is}
use Rattle.weights.proofs.Fills.{unweighed, weighed}
use Rattle.weights.proofs.near.weigh_within.Goals as goal

pub loop-j-init : goal.loop-j-init
loop-j-init c = unweighed _ _ _

pub loop-j-preserved : goal.loop-j-preserved
loop-j-preserved c =
    weighed _ c.loop-j.v-items _ _ _ c.loop-j.invariant (search rules) (search rules) (rw (c.weight_within.ensures, c.squares-s.ensures, c.at.ensures, distance_is))
