-- `elementary::exp_steps` meets its contract: its 13 lines are the definition's 13 steps, with each j written as a float.
use Rattle.std.proofs.Common.{refl}
use lib.Ieee.{of_int, of_bits}
use Rattle.elementary.specs.Exp.{exp_step, exp_steps}
use Rattle.elementary.proofs.exp_steps.Goals as goal

pub returns : goal.returns
unfolding exp_steps exp_step of_int of_bits
returns c = refl
