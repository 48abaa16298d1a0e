-- `text::put_refused`: the line of a refusal.
use borrow.Author.Rules.{rules}
use Rattle.text.proofs.Lines.{text_is}
use Rattle.text.proofs.Parts.{refused_line_lem}
use Rattle.text.proofs.put_refused.Goals as goal

pub returns : goal.returns
returns c =
    let line = refused_line_lem _ c.word.ensures.written c.count.ensures.written c.byte.ensures.written c.requires.0 in
    text_is {d = c.byte.new.self.bytes.now} (search rules) (rw (← c.from.ensures) line)
