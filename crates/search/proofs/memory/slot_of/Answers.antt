-- `search::memory::slot_of`: the place of the first entry that serves.
use mathlib.Core.Path.{ap, ◌∙◌}
use Prim.Native.Nat.{ℕ}
use Rattle.std.proofs.Common.{rules, tests}
use Rattle.std.proofs.lemmas.Iterator.{YieldsList-from_slice}
use Rattle.std.proofs.lemmas.Iterator.Search.{position_from_yields_List}
use Rattle.std.specs.Prelude.{Option, unwrap_or}
use Rattle.search.specs.Memo.{serves}
use Rattle.search.proofs.memory.slot_of.Goals as goal

pub returns-clause-value : goal.returns-clause-value
returns-clause-value c =
    c.unwrap_or.ensures
    ∙ ap (λ (o : Option ℕ). unwrap_or o 101) (position_from_yields_List (serves c.args.key) _ _ c.position.result c.position.ensures.ran (YieldsList-from_slice c.args.tried.now c.iter.ensures.rest) (λ x b q k. search (rules, tests)))
