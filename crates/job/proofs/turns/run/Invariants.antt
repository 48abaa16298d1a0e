-- `job::turns::run`: what is left to run from here is what was left at the start, less the steps made.
use Prim.Native.Nat.{◌-◌}
use Rattle.job.proofs.Turning.{Reached}
use Rattle.job.proofs.turns.run.Given as goal

abbrev pub invariant-loop-made : goal.invariant-loop-made
invariant-loop-made l =
    Reached l.problem.columns l.allowance l.initial.k l.initial.out (l.allowance - l.made) l.made l.k l.out
