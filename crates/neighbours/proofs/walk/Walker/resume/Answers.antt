-- `neighbours::walk::Walker::resume` meets its contract: the sums are laid over zeros.
use Rattle.std.proofs.Common.{ap, List}
use Rattle.std.proofs.Math.Seq.{take-append_seam}
use lib.Ieee.{Float}
use Rattle.neighbours.proofs.Buffers.{laid}
use Rattle.neighbours.proofs.walk.Walker.resume.Goals as goal

pub invariant_of-result : goal.invariant_of-result
invariant_of-result c = rw c.copy_from_slice.ensures.after (laid _ c.requires)

pub returns : goal.returns
returns c = rw c.copy_from_slice.ensures.after (ap (λ (l : List Float). record { sums = l; greatest = c.args.greatest }) (take-append_seam _ _))
