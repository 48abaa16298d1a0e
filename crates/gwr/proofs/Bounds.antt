-- Which inputs the fit refuses, and what is known of its answer: its rows lie within the output, its solves are few, and one that is fitted has all its rows.
use Rattle.std.specs.Prelude.{Result, Ok, Err, Option, Some, None, IfOk}
use mathlib.Core.Path.{◌≡◌, refl, ap}
use mathlib.Core.Bool.{true}
use mathlib.Core.List.{List}
use Prim.Native.Nat.{ℕ, ◌+◌, ◌*◌, ◌≤◌}
use native.Mathlib.Nat.{mul-le-mul, mul-le-mul_right}
use native.Mathlib.Omega.{arith}
use lib.ListN.{length}
use lib.Ieee.{Float}
use Rattle.std.specs.Prelude.{Ok, Err}
use Rattle.refusal.specs.declared.Refusal.{Refusal}
use Rattle.setup.specs.declared.GwrBandwidth.{GwrBandwidth}
use Rattle.setup.specs.declared.GwrOptions.{GwrOptions}
use Rattle.setup.specs.declared.Setup.{Setup}
use Rattle.setup.specs.Data.{Data}
use Rattle.setup.specs.Shape.{setup_of}
use Rattle.criterion.specs.Aicc.{corrected_aic}
use Rattle.checks.specs.Judge.{Decides}
use Rattle.plan.specs.declared.Plan.{Plan}
use Rattle.plan.specs.declared.Plan.TheVariants.{Settled, Sought}
use Rattle.input.specs.Checks.{fit_tests}
use Rattle.plan.specs.Plan.{Acceptance, plan_of, accept_of}
use Rattle.plan.proofs.Planned.{accept_decides, accept_planned}
use Rattle.input.proofs.Accepted.{Accepted}
use Rattle.sweep.specs.declared.Swept.{Swept}
use Rattle.sweep.specs.Sweep.{fit_all_locations, solves_of, ending_at}
use Rattle.sweep.specs.Finish.{finish_of}
use Rattle.sweep.proofs.Sweeps.{sweep_few, sweep_solves}
use Rattle.sweep.proofs.Reached.{ReachedAt, sweep_reached}
use Rattle.search.specs.Search.{optimize_bandwidth}
use Rattle.search.proofs.Solves.{optimum_made}
use Rattle.gwr.specs.declared.Fit.{Fit}
use Rattle.gwr.specs.Fit.{final_of, sought_of, planned, fitted, answered, gwr_fit, rows_written}
use Rattle.gwr.proofs.Swept.{sweep_long}

-- a fit that was made of n observations, with an output of this length
pub record Made (n out : ℕ) (f : Fit) : Type 0 where
  pub some : 1 ≤ out
  pub few : f.finish.summary.solves ≤ 52736
  pub whole : f.finish.refusal ≡ None → f.rows ≡ n

pub record Fits (n p out : ℕ) (f : Result Fit Refusal × List Float) : Type 0 where
  pub rows : rows_written f.0 * (p + 4) ≤ out
  pub long : length f.1 ≡ out
  pub sound : IfOk f.0 (λ g. Made n out g)

finish_made : (e : Result Float Refusal) (b : GwrBandwidth) (solves rows n out : ℕ) → 1 ≤ out → solves ≤ 52736 → rows ≡ n → Made n out (record { finish = finish_of e b solves; rows = rows })
finish_made (Ok v) b solves rows n out h k e = record { some = h; few = k; whole = λ _. e }
finish_made (Err r) b solves rows n out h k e = record { some = h; few = k; whole = λ _. e }

module _ (d : Data) (p : ℕ) (o : GwrOptions) (out : List Float) where
  abbrev u : Setup
  u = setup_of d p o

  final_sound : (s : Swept) (c : Option Refusal) (b : GwrBandwidth) (solves : ℕ) → ReachedAt u d b c u.n s.sweep → 1 ≤ length out → solves ≤ 52736
      → Made u.n (length out) (record { finish = finish_of (ending_at c u s.sweep) b solves; rows = s.sweep.location })
  final_sound s None b solves r h k = finish_made (corrected_aic u s.sweep.squares s.sweep.trace) b solves s.sweep.location u.n (length out) h k r
  final_sound s (Some q) b solves r h k = record { some = h; few = k; whole = λ e. absurd cc }

  final_fits : (b : GwrBandwidth) (before : ℕ) → Accepted d p o (length out) → before ≤ 512 * 102 → Fits u.n p (length out) (fitted (final_of u d b before out))
  unfolding final_of
  final_fits b before a h =
      let s = (fit_all_locations true u d b out).0 in
      let z = a.shaped.sized in
      let most : s.sweep.location * (p + 4) ≤ u.n * (p + 4) = mul-le-mul_right (p + 4) (sweep_few true u d b out) in
      let wide : 4 ≤ p + 4 = omega arith in
      let some : 1 ≤ u.n = omega (arith, z.enough) in
      let one : 1 * 4 ≤ u.n * (p + 4) = mul-le-mul some wide in
      record {
        rows = omega (arith, most, a.room);
        long = sweep_long u d b z.narrow out a.room;
        sound = final_sound s s.stopped b (before + solves_of s) (sweep_reached u d b true out) (omega (arith, one, a.room)) (omega (arith, h, sweep_solves true u d b out, z.few));
      }

  planned_fits : (q : Plan) → Accepted d p o (length out) → Fits u.n p (length out) (fitted (planned q u d out))
  unfolding sought_of
  planned_fits (Settled b) a = final_fits b 0 a (omega arith)
  planned_fits (Sought lo hi) a = final_fits (optimize_bandwidth u d lo hi).bandwidth (optimize_bandwidth u d lo hi).solves a (optimum_made u d a.shaped.sized lo hi (optimize_bandwidth u d lo hi) refl).1

  pub fits : Fits u.n p (length out) (gwr_fit d p o out)
  unfolding gwr_fit
  fits = go (accept_of d p o (length out)) refl
    where
      go : (a : Acceptance) → accept_of d p o (length out) ≡ a → Fits u.n p (length out) (answered a u d out)
      go (Err r) e = record { rows = omega arith; long = refl; sound = tt }
      go (Ok q) e = planned_fits q (accept_planned d p o (length out) e).accepted

  -- a refusal from the input writes nothing; every other input is fitted by its plan
  pub fit_decides : Decides (fit_tests d p o (length out)) (λ (r : Refusal). gwr_fit d p o out ≡ (Err r, out)) (gwr_fit d p o out ≡ fitted (planned (plan_of u d) u d out))
  unfolding gwr_fit
  fit_decides =
      let a = accept_decides d p o (length out) in
      record {
        refused = λ r h. ap (λ (z : Acceptance). answered z u d out) (a.refused r h);
        served = λ h. ap (λ (z : Acceptance). answered z u d out) (a.served h);
      }
