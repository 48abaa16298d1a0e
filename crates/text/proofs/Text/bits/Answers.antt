-- `Text::bits`: a space and 16 digits.
use Rattle.text.proofs.Parts.{bits_after_space}
use Rattle.text.proofs.Text.bits.Goals as goal

pub returns-clause-written : goal.returns-clause-written
returns-clause-written c = bits_after_space _ c.byte.ensures.written c.hex.ensures.written c.requires
