-- `search::trials::evaluate_aicc`: the sweep's score and solves.
use native.Mathlib.Omega.{arith}
use Rattle.sweep.proofs.Sweeps.{made_few}
use Rattle.search.proofs.trials.evaluate_aicc.Goals as goal

pub solves-requires : goal.solves-requires
solves-requires c =
    let few = c.setup-u.ensures.shaped.sized.few in
    let h = made_few _ _ _ _ _ _ _ c.fit_all_locations-s.ensures in
    omega (arith, h.0, few)
