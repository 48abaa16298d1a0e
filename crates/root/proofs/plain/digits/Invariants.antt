-- `root::plain::digits` meets its contract: `Digits` of `Squares.antt` is its loop's invariant.
use Rattle.root.proofs.Squares.{Digits}
use Rattle.root.proofs.plain.digits.Given as goal

abbrev pub invariant-loop-i : goal.invariant-loop-i
invariant-loop-i l = Digits l.a l.q l.rem l.c l._i
