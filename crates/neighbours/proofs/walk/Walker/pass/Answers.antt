-- `neighbours::walk::Walker::pass` meets its contract: the own pantry is passed by, any other met.
use mathlib.Core.Path.{sym, ◌∙◌}
use borrow.Author.Rules.{rules}
use Rattle.neighbours.specs.Walk.{squares_from}
use Rattle.neighbours.proofs.Buffers.{held_more}
use Rattle.neighbours.proofs.Walks.{stays, goes}
use Rattle.neighbours.proofs.walk.Walker.pass.Goals as goal

pub returns-then-is_own : goal.returns-then-is_own
returns-then-is_own c = stays _ _ _ _ (sym c.is_own.ensures ∙ c.if-is_own.true)

pub invariant_of-self : goal.invariant_of-self
invariant_of-self c = held_more _ _ _ (search rules) c.self.invariant

pub returns : goal.returns
unfolding squares_from
returns c =
    rw (← c.self.view_is)
    (goes c.args.own _ c.args.j _ _ _ (sym c.is_own.ensures ∙ c.if-is_own.false) (c.squares-s.ensures ∙ rw c.at.ensures) c.max-self-inside.ensures (search rules))
