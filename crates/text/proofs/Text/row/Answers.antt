-- `Text::row`: the line of a row.
use Rattle.text.proofs.Parts.{row_line_lem}
use Rattle.text.proofs.Text.row.Goals as goal

pub returns-clause-written : goal.returns-clause-written
returns-clause-written c =
    row_line_lem _ _ _ _ c.word.ensures.written c.count.ensures.written c.numbers.ensures.written c.byte.ensures.written c.requires.1 c.requires.0
