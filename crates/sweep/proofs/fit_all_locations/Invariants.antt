-- `sweep::fit_all_locations`: sweep and output are the fold up to i, none of whose solves was refused.
use mathlib.Core.Path.{◌≡◌}
use lib.ListN.{length}
use Rattle.std.specs.Prelude.{None}
use Rattle.real.proofs.Fold.{Range}
use Rattle.sweep.specs.Sweep.{visit}
use Rattle.sweep.proofs.fit_all_locations.Given as goal

abbrev pub invariant-loop-i : goal.invariant-loop-i
invariant-loop-i l =
    Range (visit l.rows l.problem.setup l.problem.columns l.b) (record { stopped = None; sweep = l.initial.sweep }, l.initial.out) 0 l.problem.setup.n l.i (record { stopped = None; sweep = l.sweep }, l.out)
    × (l.sweep.location ≡ l.i)
    × (length l.out ≡ length l.initial.out)
