-- The arms of the fit's code.
use Rattle.std.specs.Prelude.{Result}
use Rattle.refusal.specs.declared.Refusal.{Refusal}
use mathlib.Core.Path.{◌≡◌, sym, ap, subst⁻¹, ◌∙◌}
use mathlib.Core.Bool.{true}
use mathlib.Core.List.{List}
use Prim.Native.Nat.{ℕ, ◌+◌, ◌/◌, ◌≤◌}
use native.Mathlib.Omega.{arith}
use lib.ListN.{length}
use lib.Ieee.{Float}
use Rattle.std.specs.Prelude.{Ok}
use Rattle.setup.specs.declared.GwrBandwidth.{GwrBandwidth}
use Rattle.setup.specs.declared.GwrOptions.{GwrOptions}
use Rattle.setup.specs.declared.Setup.{Setup}
use Rattle.setup.specs.Data.{Data}
use Rattle.setup.specs.Problem.{Posed}
use Rattle.setup.specs.Shape.{setup_of, Shaped}
use Rattle.plan.specs.declared.Plan.{Plan}
use Rattle.plan.specs.Plan.{Acceptance, accept_of}
use Rattle.sweep.specs.declared.Finish.{Finish}
use Rattle.sweep.specs.declared.Swept.{Swept}
use Rattle.sweep.specs.Sweep.{RoomFor, fit_all_locations, solves_of, ending_of}
use Rattle.sweep.specs.Finish.{finish_of}
use Rattle.sweep.proofs.Sweeps.{made_few}
use Rattle.gwr.specs.declared.Fit.{Fit}
use Rattle.gwr.specs.Fit.{fit_from, fitted, final_of, planned, answered, gwr_fit}

module _ (u : Setup) (d : Data) where
  abbrev fit : Finish → ℕ → Fit
  fit a n = record { finish = a; rows = n }

  pub final_is : (b : GwrBandwidth) (before : ℕ) (out after : List Float) (s : Swept) (e : Result Float Refusal) (k : ℕ) (r : Finish) → ◌≡◌ {A = Swept × List Float} (s, after) (fit_all_locations true u d b out)
      → e ≡ ending_of u s → k ≡ solves_of s → r ≡ finish_of e b (before + k) → ◌≡◌ {A = Fit × List Float} (fit r s.sweep.location, after) (final_of u d b before out)
  unfolding final_of
  final_is b before out after s e k r h he hk hr =
      let answer : r ≡ finish_of (ending_of u s) b (before + solves_of s) = hr ∙ ap (λ (x : Result Float Refusal). finish_of x b (before + k)) he ∙ ap (λ (n : ℕ). finish_of (ending_of u s) b (before + n)) hk in
      ap (λ (x : Finish). (fit x s.sweep.location, after)) answer
      ∙ ap (λ (z : Swept × List Float). (fit_from u b before z.0, z.1)) h

  -- its sweep makes 512 solves at most
  pub solves_made : (b : GwrBandwidth) (out after : List Float) (s : Swept) → u.n ≤ 512 → ◌≡◌ {A = Swept × List Float} (s, after) (fit_all_locations true u d b out) → (k : ℕ) → k ≡ solves_of s → k ≤ 512
  solves_made b out after s few h k hk = let m = made_few true u d b s out after h in omega (arith, m.1, few, hk)

-- a problem whose n was read from coordinates that are those of the data
module _ (d : Data) (p : ℕ) (o : GwrOptions) (v : Data) (seen : v ≡ d) where
  abbrev read : Data → Setup
  read lent = record { options = o; n = length lent.coords / 2; p = p }

  pub shaped_is : Shaped (setup_of d p o) d → Shaped (read v) d
  shaped_is h = subst⁻¹ (λ (l : Data). Shaped (read l) d) seen h

  pub posed_is : (w : Posed) → w ≡ record { setup = read v; columns = d } → w ≡ record { setup = setup_of d p o; columns = d }
  posed_is w h = h ∙ ap (λ (l : Data). record { setup = read l; columns = d }) seen

  pub room_is : (w : Posed) → w ≡ record { setup = read v; columns = d } → (out : ℕ) → RoomFor true (setup_of d p o) out → RoomFor true w.setup out
  room_is w h out room = subst⁻¹ (λ (q : Posed). RoomFor true q.setup out) (posed_is w h) room

-- the fit, by what is said of its input, and by its plan
module _ (d : Data) (p : ℕ) (o : GwrOptions) (out : List Float) where
  pub fit_is : (a : Acceptance) (r : Result Fit Refusal × List Float) → accept_of d p o (length out) ≡ a → r ≡ answered a (setup_of d p o) d out → r ≡ gwr_fit d p o out
  unfolding gwr_fit
  fit_is a r e h = h ∙ sym (ap (λ (z : Acceptance). answered z (setup_of d p o) d out) e)

  pub planned_is : (q s : Plan) (w : Posed) (r : Fit × List Float) → accept_of d p o (length out) ≡ Ok q → q ≡ s → w ≡ record { setup = setup_of d p o; columns = d }
      → r ≡ planned s w.setup w.columns out → fitted r ≡ gwr_fit d p o out
  planned_is q s w r e f g h =
      fit_is (Ok q) (fitted r) e (ap fitted (h ∙ ap (λ (v : Posed). planned s v.setup v.columns out) g ∙ sym (ap (λ (z : Plan). planned z (setup_of d p o) d out) f)))
