-- `root::plain::digits` meets its contract: `Digits` of `Squares.antt` is its loop's invariant.
use Rattle.root.proofs.Squares.{one, none}
use Rattle.root.proofs.plain.digits.Goals as goal
use Rattle.root.proofs.plain.digits.Goals.{then-t-next, else-t-next}

pub loop-i-preserved : goal.loop-i-preserved
loop-i-preserved c =
    let at = c.loop-i in
    elim c.if-t-next.branch [
      | then-t-next w ↦ rw (w.q-is, w.rem-is) (one _ at.q at.rem at.c at._i at.invariant c.loop-i-test.true w.if-t-next.true)
      | else-t-next w ↦ rw (w.q-is, w.rem-is) (none _ at.q at.rem at.c at._i at.invariant c.loop-i-test.true w.if-t-next.false)
    ]
