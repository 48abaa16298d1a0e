-- `text::put_fit`: the line of the fit, and those of its rows.
use borrow.Author.Rules.{rules}
use native.Mathlib.Omega.{arith}
use Rattle.text.specs.Listing.{listing}
use Rattle.text.proofs.Lines.{and_then, text_is}
use Rattle.text.proofs.Parts.{summary_end}
use Rattle.text.proofs.put_fit.Goals as goal

pub returns : goal.returns
unfolding listing
returns c =
    let line = c.summary.ensures.written in
    let rows = c.rows.ensures.written in
    text_is (search rules) (and_then line rows (omega (arith, c.rows.ensures.short, summary_end _ _ _ line)))
