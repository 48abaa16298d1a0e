-- `Text::rows`: one row more.
use borrow.Author.Rules.{rules}
use mathlib.Core.Path.{refl, ◌∙◌}
use Rattle.text.proofs.Rows.{no_row, row_more}
use Rattle.text.proofs.Text.rows.Goals as goal

pub loop-i-init : goal.loop-i-init
loop-i-init c = record { same_bytes = refl; written = no_row }

pub loop-i-preserved : goal.loop-i-preserved
loop-i-preserved c =
    let l = c.loop-i.invariant in
    record {
      same_bytes = c.row.ensures.same_bytes ∙ l.same_bytes;
      written = row_more l.written (search rules) (search rules) (search rules) c.row.ensures.written;
    }
