-- `Text::count`: a space and at most 6 digits.
use Rattle.text.proofs.Parts.{count_after_space}
use Rattle.text.proofs.Text.count.Goals as goal

pub returns-clause-written : goal.returns-clause-written
returns-clause-written c = count_after_space _ c.byte.ensures.written c.decimal.ensures.written c.requires.0
