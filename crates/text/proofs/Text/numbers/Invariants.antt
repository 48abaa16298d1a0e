-- `Text::numbers`: the first k are written.
use mathlib.Core.Path.{◌≡◌}
use Rattle.text.proofs.Rows.{Numbering}
use Rattle.text.proofs.Text.numbers.Given as goal

abbrev pub invariant-loop-k : goal.invariant-loop-k
invariant-loop-k l =
    record {
      same_bytes : l.self.bytes.ghost_name ≡ l.initial.self.bytes.ghost_name;
      written : Numbering l.initial.self.bytes.now l.initial.self.len l.out l.first l.count l.k l.self.bytes.now l.self.len;
    }
