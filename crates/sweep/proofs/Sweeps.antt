-- How far a sweep comes, and that rows leave it alone: laws of the definitions, by cases of the course and of the outcome.
use Rattle.std.specs.Prelude.{Result, Ok, Option, Some, None}
use mathlib.Core.Path.{◌≡◌, refl, sym, ap, subst, subst⁻¹, ◌∙◌}
use mathlib.Core.Bool.{Bool, true, false}
use mathlib.Core.List.{List}
use Prim.Native.Nat.{ℕ, ◌≤◌}
use native.Mathlib.Omega.{arith}
use lib.Ieee.{Float}
use Rattle.real.specs.Fold.{range}
use Rattle.real.proofs.Fold.{kept, related, split}
use Rattle.refusal.specs.declared.Refusal.{Refusal}
use Rattle.setup.specs.declared.GwrBandwidth.{GwrBandwidth}
use Rattle.setup.specs.declared.Setup.{Setup}
use Rattle.setup.specs.Data.{Data}
use Rattle.local.specs.declared.Solved.{Solved}
use Rattle.local.specs.Solve.{solve_location}
use Rattle.sweep.specs.declared.Sweep.{Sweep}
use Rattle.sweep.specs.declared.Swept.{Swept}
use Rattle.sweep.specs.Sweep.{new_sweep, add_values, next_location, after_solve, row_after, visit_at, visit, fit_all_locations, sweep_of, solves_of}
use Rattle.sweep.proofs.Reached.{range_reached, sweep_reached, reached_few}

pub pair : {A B : Type 0} {a c : A} {x y : B} → a ≡ c → x ≡ y → ◌≡◌ {A = A × B} (a, x) (c, y)
pair p q = cc

-- ---- the arms of the code

pub after_found : (s t r : Sweep) (o : Result Solved Refusal) (v : Solved) → o ≡ Ok v → t ≡ add_values s v.values → r ≡ next_location t
    → ◌≡◌ {A = Swept} (record { stopped = None; sweep = r }) (after_solve s o)
after_found s t r o v e f g =
    ap (λ (x : Sweep). record { stopped = None; sweep = x }) (g ∙ ap next_location f) ∙ sym (ap (after_solve s) e)

module _ (rows : Bool) (u : Setup) (d : Data) (b : GwrBandwidth) where
  -- a sweep that has stopped stays as it is, and one that goes on is as the solve leaves it
  pub visit_stopped : (i : ℕ) (s : Swept) (out : List Float) (r : Refusal) → s.stopped ≡ Some r → ◌≡◌ {A = Swept × List Float} (s, out) (visit rows u d b i (s, out))
  unfolding visit
  visit_stopped i s out r e = sym (ap (λ (c : Option Refusal). visit_at c rows u d b i (s, out)) e)

  pub visit_going : (i : ℕ) (s t : Swept) (v : Result Solved Refusal) (out after : List Float) → s.stopped ≡ None → v ≡ solve_location u d b i
      → after ≡ row_after rows u i v out → t ≡ after_solve s.sweep v → ◌≡◌ {A = Swept × List Float} (t, after) (visit rows u d b i (s, out))
  unfolding visit
  visit_going i s t v out after e f g h =
      pair h g ∙ ap (λ (w : Result Solved Refusal). (after_solve s.sweep w, row_after rows u i w out)) f ∙ sym (ap (λ (c : Option Refusal). visit_at c rows u d b i (s, out)) e)

  -- and to the end
  pub stopped_rest : (i : ℕ) (s₀ : Swept × List Float) (s : Swept) (out : List Float) (r : Refusal) → i ≤ u.n → s.stopped ≡ Some r
      → ◌≡◌ {A = Swept × List Float} (s, out) (range (visit rows u d b) 0 i s₀) → ◌≡◌ {A = Swept × List Float} (s, out) (range (visit rows u d b) 0 u.n s₀)
  stopped_rest i s₀ s out r h e q =
      let f = visit rows u d b in
      sym (kept f i u.n (λ (t : Swept × List Float). t ≡ (s, out)) (λ k t l p. ap (f k) p ∙ sym (visit_stopped k s out r e)) (range f 0 i s₀) h (sym q))
      ∙ split f s₀ 0 i u.n (omega arith) h

  -- after i visits it is at location i at most
  pub swept_few : (i : ℕ) (out : List Float) → (range (visit rows u d b) 0 i (record { stopped = None; sweep = new_sweep }, out)).0.sweep.location ≤ i
  swept_few i out =
      let s = (range (visit rows u d b) 0 i (record { stopped = None; sweep = new_sweep }, out)).0 in
      let k = reached_few u d b i s (range_reached u d b rows out i) in
      omega (arith, k.rows, k.all)

  -- so a whole one ends at location n at most, and has made n solves at most
  pub sweep_few : (out : List Float) → (fit_all_locations rows u d b out).0.sweep.location ≤ u.n
  unfolding fit_all_locations
  sweep_few out = swept_few u.n out

  pub sweep_solves : (out : List Float) → solves_of (fit_all_locations rows u d b out).0 ≤ u.n
  sweep_solves out = (reached_few u d b u.n (fit_all_locations rows u d b out).0 (sweep_reached u d b rows out)).all

  -- the same of a sweep that was made
  pub made_few : (s : Swept) (out after : List Float) → ◌≡◌ {A = Swept × List Float} (s, after) (fit_all_locations rows u d b out) → (s.sweep.location ≤ u.n) × (solves_of s ≤ u.n)
  made_few s out after e = subst⁻¹ (λ (q : Swept × List Float). (q.0.sweep.location ≤ u.n) × (solves_of q.0 ≤ u.n)) e (sweep_few out, sweep_solves out)

-- ---- with rows or without, a sweep is the same
module _ (u : Setup) (d : Data) (b : GwrBandwidth) where
  visit_alone : (rows : Bool) (c e : Option Refusal) (i : ℕ) (s t : Swept × List Float) → c ≡ e → s.0 ≡ t.0 → (visit_at c false u d b i s).0 ≡ (visit_at e rows u d b i t).0
  visit_alone rows c e i s t f h = subst (λ (k : Option Refusal). (visit_at c false u d b i s).0 ≡ (visit_at k rows u d b i t).0) f (same c)
    where
      same : (k : Option Refusal) → (visit_at k false u d b i s).0 ≡ (visit_at k rows u d b i t).0
      same None = ap (λ (w : Swept). after_solve w.sweep (solve_location u d b i)) h
      same (Some r) = h

  pub sweep_same : (rows : Bool) (out : List Float) → sweep_of u d b ≡ (fit_all_locations rows u d b out).0
  unfolding fit_all_locations visit
  sweep_same rows out =
      related (visit false u d b) (visit rows u d b) 0 u.n (λ (s t : Swept × List Float). s.0 ≡ t.0)
      (λ k s t h e. visit_alone rows s.0.stopped t.0.stopped k s t (ap (λ (w : Swept). w.stopped) e) e)
      _ _ (omega arith) refl

  pub sweep_alone : (out : List Float) → sweep_of u d b ≡ (fit_all_locations true u d b out).0
  sweep_alone out = sweep_same true out

  visit_left : (c : Option Refusal) (i : ℕ) (s : Swept × List Float) → (visit_at c false u d b i s).1 ≡ s.1
  visit_left None i s = refl
  visit_left (Some r) i s = refl

  -- and without rows it leaves the output
  pub sweep_left : (out : List Float) → (fit_all_locations false u d b out).1 ≡ out
  unfolding fit_all_locations visit
  sweep_left out = kept (visit false u d b) 0 u.n (λ (s : Swept × List Float). s.1 ≡ out) (λ k s h e. visit_left s.0.stopped k s ∙ e) _ (omega arith) refl
