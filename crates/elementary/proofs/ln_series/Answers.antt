-- `elementary::ln_series` meets its contract: its lines are the definition's steps, with each j written as a float.
use Rattle.std.proofs.Common.{refl}
use lib.Ieee.{of_int, of_bits}
use Rattle.elementary.specs.Ln.{ln_step, ln_steps, ln_series}
use Rattle.elementary.proofs.ln_series.Goals as goal

pub returns : goal.returns
unfolding ln_series ln_steps ln_step of_int of_bits
returns c = refl
