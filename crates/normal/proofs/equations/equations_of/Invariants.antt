-- `normal::equations::equations_of` meets its contract: the loop's sums are the fold of `normal_step` up to j; an observation that weighs nothing is passed by.
use Rattle.real.proofs.Fold.{Range}
use Rattle.normal.specs.Equations.{normal_step}
use Rattle.normal.proofs.equations.equations_of.Given as goal

abbrev pub invariant-loop-j : goal.invariant-loop-j
invariant-loop-j l = Range (normal_step l.sample.setup l.sample.columns l.w) l.initial.e 0 l.sample.setup.n l.j l.e
