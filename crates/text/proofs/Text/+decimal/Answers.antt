-- `Text::decimal`: one digit, or the last behind the others.
use borrow.Author.Rules.{rules}
use Rattle.text.proofs.Digits.{decimal_none, decimal_last, decimal_room, decimal_next}
use Rattle.text.proofs.Text.+decimal.Goals as goal

pub returns-then-places-eq0-clause-written : goal.returns-then-places-eq0-clause-written
returns-then-places-eq0-clause-written t c = decimal_none _ _ c.if-places-eq0.true

pub returns-then-v-lt10-clause-written : goal.returns-then-v-lt10-clause-written
returns-then-v-lt10-clause-written t c = decimal_last _ _ c.byte.ensures.written (search rules) (search rules) c.digit.ensures

pub byte-requires-2 : goal.byte-requires-2
byte-requires-2 t c = decimal_room _ _ c.decimal.ensures.written (search rules) c.requires

pub returns-clause-written : goal.returns-clause-written
returns-clause-written t c =
    decimal_next _ _ c.decimal.ensures.written c.byte-2.ensures.written (search rules) c.requires (search rules) c.digit-2.ensures
