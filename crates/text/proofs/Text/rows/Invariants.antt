-- `Text::rows`: the first i are written.
use mathlib.Core.Path.{◌≡◌}
use Rattle.text.proofs.Rows.{Listing}
use Rattle.text.proofs.Text.rows.Given as goal

abbrev pub invariant-loop-i : goal.invariant-loop-i
invariant-loop-i l =
    record {
      same_bytes : l.self.bytes.ghost_name ≡ l.initial.self.bytes.ghost_name;
      written : Listing l.initial.self.bytes.now l.initial.self.len l.out l.width l.n l.i l.self.bytes.now l.self.len;
    }
