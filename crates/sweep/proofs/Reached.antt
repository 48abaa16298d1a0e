-- Where a sweep has come to after so many locations, with rows or without: a solve and a row for each, until one is refused.
use Rattle.std.specs.Prelude.{Result, Ok, Err, Option, Some, None}
use Rattle.local.specs.declared.Solved.{Solved}
use mathlib.Core.Path.{◌≡◌, refl, ap, subst, ◌∙◌}
use mathlib.Core.Bool.{Bool}
use mathlib.Core.List.{List}
use Prim.Native.Nat.{ℕ, zero, suc, ◌+◌, ◌≤◌, ◌<◌}
use native.Mathlib.Nat.{zero-add, sub-zero}
use native.Mathlib.Omega.{arith}
use lib.Ieee.{Float}
use Rattle.real.specs.Fold.{turns, range}
use Rattle.refusal.specs.declared.Refusal.{Refusal}
use Rattle.setup.specs.declared.GwrBandwidth.{GwrBandwidth}
use Rattle.setup.specs.declared.Setup.{Setup}
use Rattle.setup.specs.Data.{Data}
use Rattle.local.specs.Solve.{solve_location}
use Rattle.local.proofs.Refusals.{AtLocation, OutcomeAt, location_at}
use Rattle.sweep.specs.declared.Sweep.{Sweep}
use Rattle.sweep.specs.declared.Swept.{Swept}
use Rattle.sweep.specs.Sweep.{new_sweep, after_solve, visit_at, visit, fit_all_locations, solves_of}

module _ (u : Setup) (d : Data) (b : GwrBandwidth) where
  -- the outcome at a location
  abbrev solve : ℕ → Result Solved Refusal
  solve i = solve_location u d b i

  -- after i locations: at location i, or stopped at one before it, whose solve was refused
  abbrev pub ReachedAt : Option Refusal → ℕ → Sweep → Type 0
  ReachedAt None i s = s.location ≡ i
  ReachedAt (Some r) i s = (s.location < i) × (solve s.location ≡ Err r)

  abbrev pub Reached : ℕ → Swept → Type 0
  Reached i s = ReachedAt s.stopped i s.sweep

  solved : (i : ℕ) (s : Sweep) (o : Result Solved Refusal) → s.location ≡ i → solve i ≡ o → Reached (suc i) (after_solve s o)
  solved i s (Ok v) h e = omega (arith, h)
  solved i s (Err r) h e = (omega (arith, h), ap solve h ∙ e)

  visit_reached : (rows : Bool) (c : Option Refusal) (i : ℕ) (s : Sweep) (out : List Float) → ReachedAt c i s
      → Reached (suc i) (visit_at c rows u d b i (record { stopped = c; sweep = s }, out)).0
  visit_reached rows None i s out h = solved i s (solve i) h refl
  visit_reached rows (Some r) i s out h = (omega (arith, h.0), h.1)

  turns_reached : (rows : Bool) (out : List Float) (i : ℕ) → Reached i (turns (visit rows u d b) 0 i (record { stopped = None; sweep = new_sweep }, out)).0
  unfolding turns visit
  turns_reached rows out zero = refl
  turns_reached rows out (suc i) =
      let s = turns (visit rows u d b) 0 i (record { stopped = None; sweep = new_sweep }, out) in
      rw zero-add (visit_reached rows s.0.stopped i s.0.sweep s.1 (turns_reached rows out i))

  pub range_reached : (rows : Bool) (out : List Float) (i : ℕ) → Reached i (range (visit rows u d b) 0 i (record { stopped = None; sweep = new_sweep }, out)).0
  unfolding range
  range_reached rows out i = rw sub-zero (turns_reached rows out i)

  -- a whole sweep
  pub sweep_reached : (rows : Bool) (out : List Float) → Reached u.n (fit_all_locations rows u d b out).0
  unfolding fit_all_locations
  sweep_reached rows out = range_reached rows out u.n

  -- a refusal that it met is a solve's
  pub stopped_at : (r : Refusal) (i : ℕ) (s : Sweep) → ReachedAt (Some r) i s → AtLocation r
  stopped_at r i s h = subst OutcomeAt h.1 (location_at u d b s.location)

  -- as many rows as solves, but for one that failed, and no more than i of both
  pub record Few (i : ℕ) (s : Swept) : Type 0 where
    pub rows : s.sweep.location ≤ solves_of s
    pub failed : solves_of s ≤ s.sweep.location + 1
    pub all : solves_of s ≤ i

  few_at : (c : Option Refusal) (i : ℕ) (s : Sweep) → ReachedAt c i s → Few i (record { stopped = c; sweep = s })
  few_at None i s h = record { rows = omega arith; failed = omega arith; all = omega (arith, h) }
  few_at (Some r) i s h = record { rows = omega arith; failed = omega arith; all = omega (arith, h.0) }

  pub reached_few : (i : ℕ) (s : Swept) → Reached i s → Few i s
  reached_few i s h = few_at s.stopped i s.sweep h
