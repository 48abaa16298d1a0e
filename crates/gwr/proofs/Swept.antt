-- An output into which a sweep wrote rows is as long as before.
use Rattle.std.specs.Prelude.{Result, Ok, Err, Option, Some, None, IfOk}
use Rattle.refusal.specs.declared.Refusal.{Refusal}
use Rattle.local.specs.declared.Solved.{Solved}
use mathlib.Core.Path.{◌≡◌, refl, ◌∙◌}
use mathlib.Core.Bool.{true}
use mathlib.Core.List.{List}
use Prim.Native.Nat.{ℕ, zero, suc, ◌+◌, ◌*◌, ◌≤◌, ◌<◌}
use native.Mathlib.Nat.{sub-zero}
use native.Mathlib.Omega.{arith}
use lib.ListN.{length}
use lib.Ieee.{Float}
use Rattle.real.specs.Fold.{turns, range}
use Rattle.setup.specs.declared.GwrBandwidth.{GwrBandwidth}
use Rattle.setup.specs.declared.Setup.{Setup}
use Rattle.setup.specs.Data.{Data}
use Rattle.local.specs.Solve.{solve_location}
use Rattle.local.proofs.Lengths.{beta_eight}
use Rattle.row.proofs.Rows.{put_long}
use Rattle.sweep.specs.declared.Swept.{Swept}
use Rattle.sweep.specs.Sweep.{new_sweep, row_found, visit_at, visit, fit_all_locations}

module _ (u : Setup) (d : Data) (b : GwrBandwidth) (narrow : u.p ≤ 7) where
  row_kept : (o : Result Solved Refusal) → IfOk o (λ s. length s.beta ≡ 8) → (i : ℕ) (out : List Float) → i < u.n → u.n * (u.p + 4) ≤ length out → length (row_found o u i out) ≡ length out
  row_kept (Ok v) h i out l room =
      let e : u.p + 1 + 3 ≡ u.p + 4 = omega arith in
      put_long out u.n (u.p + 1) i v.beta v.values (rw e room) l (omega (arith, narrow)) h
  row_kept (Err r) h i out l room = refl

  visit_kept : (c : Option Refusal) (i : ℕ) (s : Swept × List Float) → i < u.n → u.n * (u.p + 4) ≤ length s.1 → length (visit_at c true u d b i s).1 ≡ length s.1
  visit_kept None i s l room = row_kept (solve_location u d b i) (beta_eight u d b i) i s.1 l room
  visit_kept (Some r) i s l room = refl

  turns_kept : (i : ℕ) (s : Swept × List Float) → i ≤ u.n → u.n * (u.p + 4) ≤ length s.1 → length (turns (visit true u d b) 0 i s).1 ≡ length s.1
  unfolding turns visit
  turns_kept zero s l room = refl
  turns_kept (suc k) s l room =
      let t = turns (visit true u d b) 0 k s in
      let e = turns_kept k s (omega (arith, l)) room in
      visit_kept t.0.stopped (0 + k) t (omega (arith, l)) (omega (arith, room, e)) ∙ e

  pub sweep_long : (out : List Float) → u.n * (u.p + 4) ≤ length out → length (fit_all_locations true u d b out).1 ≡ length out
  unfolding fit_all_locations range
  sweep_long out room = rw sub-zero (turns_kept u.n (record { stopped = None; sweep = new_sweep }, out) (omega arith) room)
