-- `gwrprint::read_input`: no more bytes than the header asks for.
use native.Mathlib.Omega.{arith}
use mathlib.Core.Path.{sym}
use lib.ListN.{drop}
use lib.Seq.{length-take-le}
use Rattle.gwrprint.proofs.Ends.{read_asked}
use Rattle.gwrprint.proofs.read_input.Goals as goal

pub slice_bounds-read_part-end-2 : goal.slice_bounds-read_part-end-2
slice_bounds-read_part-end-2 c = sym (length-take-le 40 c.args.input.now (omega arith))

pub returns : goal.returns
returns c =
    let head = c.read_part-head in
    let rest = c.read_part in
    read_asked c.args.input.now head.new.part (drop 40 c.args.input.now) rest.new.part _ _ _ _ c.requires (head.ensures.within, head.ensures.long) c.asked_behind-end.ensures (rest.ensures.within, rest.ensures.long) _
