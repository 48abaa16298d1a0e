-- `weights::weigh` meets its contract: either loop gives the weights and their sum, over the zeros handed over.
use borrow.Author.Rules.{rules}
use mathlib.Core.Path.{◌≡◌, ◌∙◌}
use mathlib.Core.List.{List}
use Prim.Native.Nat.{ℕ}
use lib.ListN.{replicate}
use lib.Ieee.{Float}
use Rattle.real.specs.Reals.{zero64}
use Rattle.kernel.proofs.Reaches.{reaches}
use Rattle.setup.specs.declared.Setup.{Setup}
use Rattle.setup.specs.Data.{Data}
use Rattle.setup.specs.Data.Trusts.{each}
use Rattle.weights.specs.Weights.{weight_from, weights_from}
use Rattle.weights.specs.Near.{near_weights}
use Rattle.weights.proofs.weigh.Goals as goal

over_zeros : (u : Setup) (d : Data) (east north b : Float) (w : List Float) {v : Setup} {coords trusts : List Float} {n : ℕ} {r : List Float × Float}
    → v ≡ u → coords ≡ d.coords → each trusts ≡ d.trusts → n ≡ u.n → w ≡ replicate 512 zero64
    → r ≡ near_weights v.options.kernel coords trusts n east north b w → r ≡ weights_from u d east north b
unfolding weights_from weight_from
over_zeros u d east north b w same places trusted many zeros e = e ∙ rw (same, places, many, zeros, ← trusted)

pub weigh_within-requires-clause-reach : goal.weigh_within-requires-clause-reach
weigh_within-requires-clause-reach c = search (rules, reaches)

pub returns-in-Some : goal.returns-in-Some
returns-in-Some c =
    over_zeros _ _ _ _ _ _ c.setup.ensures.setup c.coords-coords.ensures.coords c.trusts-trusts.ensures.trusts c.trusts-trusts.ensures.one_each c.requires.zeros c.weigh_within.ensures

pub returns-in-None : goal.returns-in-None
returns-in-None c =
    over_zeros _ _ _ _ _ _ c.setup.ensures.setup c.coords-coords.ensures.coords c.trusts-trusts.ensures.trusts c.trusts-trusts.ensures.one_each c.requires.zeros c.weigh_all.ensures
