-- `elementary::two_to_minus` meets its contract. Written out: a search for it, where it fails, is most of what a must-fail edit costs.
use mathlib.Core.Path.{refl}
use Rattle.exponent_table.specs.Reduction.{two_to_minus}
use Rattle.elementary.proofs.two_to_minus.Goals as goal

pub returns : goal.returns
unfolding two_to_minus
returns c = refl
