-- A fit into coefficients that are lent: what it tells is what was found or the refusal, and by what elimination came to.
use mathlib.Core.Path.{◌≡◌, refl, ap, ◌∙◌}
use Prim.Native.Nat.{ℕ}
use Rattle.std.specs.Prelude.{Result, Ok, Err}
use Rattle.std.specs.Result.{result_ok}
use Rattle.refusal.specs.declared.Refusal.{Refusal}
use Rattle.refusal.specs.declared.Refusal.TheVariants.{Singular}
use Rattle.real.specs.Matrix.{Row, Matrix}
use Rattle.estimate.specs.declared.Coefficients.{Coefficients}
use Rattle.estimate.specs.Estimate.{from_inverse, from_eliminated, came_to, none_of, put_into}

-- the answer and what it left, put together again
abbrev taken : Result (Unit {0}) Refusal × Coefficients → Result Coefficients Refusal
taken (Ok done, c) = Ok c
taken (Err r, c) = Err r

taken_put : (f : Result Coefficients Refusal) (left : Coefficients) → taken (put_into f left) ≡ f
taken_put (Ok c) left = refl
taken_put (Err r) left = refl

module _ (f : Result Coefficients Refusal) (left : Coefficients) where
  pub put_found : {c : Coefficients} → (Ok tt, c) ≡ put_into f left → Ok c ≡ f
  put_found e = ap taken e ∙ taken_put f left

  pub put_refused : {c : Coefficients} {r : Refusal} → (Err r, c) ≡ put_into f left → Err r ≡ f
  put_refused e = ap taken e ∙ taken_put f left

-- by an elimination, whose matrix is a
module _ (a : Matrix) (rhs : Row) (m : ℕ) where
  abbrev by : Result Matrix Matrix → Result (Unit {0}) Refusal × Coefficients
  by t = put_into (from_eliminated (result_ok t) rhs m) (none_of (came_to t))

  pub singular : (t : Result Matrix Matrix) → Err a ≡ t → (Err Singular, none_of a) ≡ by t
  unfolding from_eliminated
  singular t e = ap by e

  pub refused : (t : Result Matrix Matrix) → Ok a ≡ t → {r : Refusal} → Err r ≡ from_inverse a rhs m → (Err r, none_of a) ≡ by t
  unfolding from_eliminated
  refused t e h = ap (λ (f : Result Coefficients Refusal). put_into f (none_of a)) h ∙ ap by e

  pub found : (t : Result Matrix Matrix) → Ok a ≡ t → {c : Coefficients} → Ok c ≡ from_inverse a rhs m → (Ok tt, c) ≡ by t
  unfolding from_eliminated
  found t e h = ap (λ (f : Result Coefficients Refusal). put_into f (none_of a)) h ∙ ap by e
