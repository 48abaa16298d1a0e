-- `Text::numbers`: one number more.
use borrow.Author.Rules.{rules}
use mathlib.Core.Path.{refl, ◌∙◌}
use Rattle.text.proofs.Rows.{none_yet, number_more}
use Rattle.text.proofs.Text.numbers.Goals as goal

pub loop-k-init : goal.loop-k-init
loop-k-init c = record { same_bytes = refl; written = none_yet }

pub loop-k-preserved : goal.loop-k-preserved
loop-k-preserved c =
    let l = c.loop-k.invariant in
    record {
      same_bytes = c.bits.ensures.same_bytes ∙ l.same_bytes;
      written = number_more l.written (search rules) (search rules) c.load.ensures c.bits.ensures.written;
    }
