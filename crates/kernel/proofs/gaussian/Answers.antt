-- `kernel::gaussian` meets its contract. Written out, as that of `squares`.
use Rattle.kernel.specs.Published.{gaussian_formula}
use lib.Ieee.{of_bits, neg}
use Rattle.kernel.proofs.gaussian.Goals as goal

pub returns : goal.returns
unfolding gaussian_formula of_bits neg
returns c = c.exp.ensures
