-- `kernel::place::Place::squares` meets its contract. Written out: a search for it, where it fails, is most of what a must-fail edit costs.
use mathlib.Core.Path.{refl}
use Rattle.kernel.specs.Weight.{squares_of}
use Rattle.kernel.proofs.place.Place.squares.Goals as goal

pub returns : goal.returns
unfolding squares_of
returns c = refl
