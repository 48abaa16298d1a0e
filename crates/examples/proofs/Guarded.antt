-- The job that the criteria tell apart, by computing: `guarded_example`.
use mathlib.Core.Path.{refl}
use Rattle.examples.specs.Guarded.{GuardedExample}
use Rattle.examples.proofs.Computing.{fitting}

pub guarded_example : GuardedExample
unfolding fitting
guarded_example = record { one_unguarded = refl; one_guarded = refl }
