-- `Text::summary`: the line of a fit.
use Rattle.text.proofs.Parts.{summary_line_lem}
use Rattle.text.proofs.Text.summary.Goals as goal

pub returns-clause-written : goal.returns-clause-written
returns-clause-written c =
    summary_line_lem _ _ _ c.word.ensures.written c.bits.ensures.written c.bits-2.ensures.written c.count.ensures.written c.byte.ensures.written c.load.ensures c.load-2.ensures c.load-3.ensures c.requires.0
