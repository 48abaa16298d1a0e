-- `evaluate::sum_squares` meets its contract: the loop's sums are the fold of `squares_step` up to j; an observation that weighs nothing is passed by.
use Rattle.real.proofs.Fold.{Range}
use Rattle.evaluate.specs.Evaluate.{squares_step}
use Rattle.evaluate.proofs.sum_squares.Given as goal

abbrev pub invariant-loop-j : goal.invariant-loop-j
invariant-loop-j l = Range (squares_step l.sample.setup l.sample.columns l.w l.beta l.mean) l.initial.s 0 l.sample.setup.n l.j l.s
