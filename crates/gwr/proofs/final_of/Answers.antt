-- `gwr::final_of`: the sweep with rows, and what it ends with.
use native.Mathlib.Omega.{arith}
use Rattle.sweep.proofs.Sweeps.{made_few}
use Rattle.gwr.proofs.Fits.{solves_made}
use Rattle.gwr.proofs.final_of.Goals as goal

pub solves-requires : goal.solves-requires
solves-requires c =
    let few = c.setup-u.ensures.shaped.sized.few in
    let h = made_few _ _ _ _ _ _ _ c.fit_all_locations-s.ensures in
    omega (arith, h.0, few)

pub overflow_add-before : goal.overflow_add-before
overflow_add-before c =
    let h = solves_made _ _ _ _ _ _ c.setup-u.ensures.shaped.sized.few c.fit_all_locations-s.ensures _ c.solves.ensures in
    omega (arith, h, c.requires.room.1)
