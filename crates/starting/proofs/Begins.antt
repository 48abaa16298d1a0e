-- Beginning by what is said of the input.
use mathlib.Core.Path.{◌≡◌, sym, ap, ◌∙◌}
use Prim.Native.Nat.{ℕ}
use Rattle.std.specs.Prelude.{Result}
use Rattle.refusal.specs.declared.Refusal.{Refusal}
use Rattle.setup.specs.declared.GwrOptions.{GwrOptions}
use Rattle.setup.specs.Data.{Data}
use Rattle.setup.specs.Shape.{setup_of}
use Rattle.plan.specs.Plan.{Acceptance, accept_of}
use Rattle.stepping.specs.declared.Job.{Job}
use Rattle.starting.specs.Begin.{begun_with, begin_of}

pub begin_is : (d : Data) (p : ℕ) (o : GwrOptions) (out : ℕ) (q : Acceptance) (r : Result Job Refusal) → accept_of d p o out ≡ q → r ≡ begun_with q (setup_of d p o) → r ≡ begin_of d p o out
unfolding begin_of
begin_is d p o out q r e h = h ∙ sym (ap (λ (z : Acceptance). begun_with z (setup_of d p o)) e)
