-- `Text::hex`: the last digit behind the others.
use borrow.Author.Rules.{rules}
use Rattle.text.proofs.Digits.{hex_none, hex_room, hex_next}
use Rattle.text.proofs.Text.+hex.Goals as goal

pub returns-then-places-eq0-clause-written : goal.returns-then-places-eq0-clause-written
returns-then-places-eq0-clause-written t c = hex_none _ _ c.if-places-eq0.true

pub byte-requires : goal.byte-requires
byte-requires t c = hex_room _ _ c.hex.ensures.written (search rules) c.requires

pub returns-clause-written : goal.returns-clause-written
returns-clause-written t c = hex_next _ _ c.hex.ensures.written c.byte.ensures.written (search rules) c.requires c.digit.ensures
