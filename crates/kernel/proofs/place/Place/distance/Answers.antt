-- `kernel::place::Place::distance` meets its contract. Written out, as that of `squares`.
use mathlib.Core.Path.{sym, ap, ◌∙◌}
use Rattle.root.specs.Root.{root}
use Rattle.kernel.proofs.Reaches.{distance_is}
use Rattle.kernel.proofs.place.Place.distance.Goals as goal

pub returns : goal.returns
returns c = c.sqrt.ensures ∙ ap root c.squares.ensures ∙ sym (distance_is _ _ _ _)
