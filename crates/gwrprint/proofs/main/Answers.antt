-- `gwrprint::main` is safe: the text ends within its buffer.
use mathlib.Core.Path.{sym}
use lib.Seq.{length-take-le}
use Rattle.listing.proofs.Texts.{end_within}
use Rattle.gwrprint.proofs.main.Goals as goal

pub slice_bounds-text-end : goal.slice_bounds-text-end
slice_bounds-text-end c = end_within _ _ _ _ c.print_input-len.ensures

pub slice_bounds-write_all-end : goal.slice_bounds-write_all-end
slice_bounds-write_all-end c = sym (length-take-le _ _ (end_within _ _ _ _ c.print_input-len.ensures))
