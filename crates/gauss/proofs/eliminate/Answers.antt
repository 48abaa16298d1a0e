-- `gauss::eliminate` meets its contract.
use borrow.Author.Rules.{rules}
use mathlib.Core.Path.{sym}
use native.Mathlib.Nat.{lt_of_lt_of_le}
use Rattle.real.proofs.Fold.{none, more, done}
use Rattle.gauss.specs.Gauss.{try_step, gauss_step, elimination}
use Rattle.gauss.proofs.Pivoting.{pivot_row, stopped}
use Rattle.gauss.proofs.eliminate.Goals as goal

pub loop-i-init : goal.loop-i-init
loop-i-init c = none (search rules)

pub returns-then-p : goal.returns-then-p
returns-then-p c = stopped _ _ c.loop-i.invariant (search rules) (rw (← c.find_pivot-p.ensures) c.if-p.true)

pub reduce-requires : goal.reduce-requires
reduce-requires c = (search rules, search rules, search rules, rw c.find_pivot-p.ensures (lt_of_lt_of_le (pivot_row _ _ _ (search rules)) (search rules)))

pub loop-i-preserved : goal.loop-i-preserved
unfolding try_step gauss_step
loop-i-preserved c =
    let f = c.find_pivot-p.ensures in more c.loop-i.invariant (search rules) (sym (rw (← f, c.if-p.false, ← c.reduce.ensures)))

pub returns : goal.returns
unfolding elimination
returns c = done c.loop-i.invariant (search rules)
