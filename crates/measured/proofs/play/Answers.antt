-- `measured::play`: one turn more.
use borrow.Author.Rules.{rules}
use mathlib.Core.Path.{ap}
use mathlib.Core.List.{List}
use lib.Ieee.{Float}
use Rattle.real.proofs.Fold.{more}
use Rattle.job.specs.declared.Turned.{Turned}
use Rattle.measured.specs.Turns.{turn_by}
use Rattle.measured.proofs.play.Goals as goal

pub loop-i-preserved : goal.loop-i-preserved
unfolding turn_by
loop-i-preserved c =
    (more c.loop-i.invariant.0 (search rules) (ap (λ (z : Turned × List Float). (z.0.job, z.1)) c.turn.ensures), search rules)
