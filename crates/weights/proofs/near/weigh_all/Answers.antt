-- `weights::near::weigh_all` meets its contract: its loop is the fold of `weigh_step`, over kernel weights made before it.
use borrow.Author.Rules.{rules}
use lib.ListN.{length}
use mathlib.Core.Path.{refl, ◌∙◌}
use Rattle.real.proofs.Fold.{done}
use Rattle.weights.proofs.Fills.{unweighed, weighed, filled_over, filled_weights}
use Rattle.weights.proofs.near.weigh_all.Goals as goal

pub loop-j-init : goal.loop-j-init
loop-j-init c = unweighed _ _ _

pub loop-j-preserved : goal.loop-j-preserved
loop-j-preserved c = weighed _ c.loop-j.v-items _ _ _ c.loop-j.invariant (search rules) (search rules) refl

pub returns : goal.returns
returns c =
    let g = c.args in
    done c.loop-j.invariant (search rules) ∙ filled_weights g.kernel g.coords.now g.trusts.now (length g.trusts.now) g.place.east g.place.north g.b _ _ g.w.now
    (filled_over _ _ _ _ c.settle_all.ensures (search rules)) (filled_over _ _ _ _ c.kernel_all.ensures (search rules))
