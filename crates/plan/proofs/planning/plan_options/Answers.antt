-- `plan::plan_options` meets its contract: where no distance is sought, none is looked at.
use mathlib.Core.Path.{◌≡◌}
use Prim.Native.Nat.{◌/◌}
use native.Mathlib.Omega.{arith}
use lib.ListN.{length}
use Rattle.plan.proofs.planning.plan_options.Goals as goal

pub returns-then-seeks_distance : goal.returns-then-seeks_distance
returns-then-seeks_distance c =
    let e : length c.args.coords.now / 2 ≡ c.args.u.n = omega (arith, c.requires.lengths) in
    rw (c.plan_options_at.ensures, c.greatest_distance.ensures, e)
