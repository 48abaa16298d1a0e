-- One local solve: which are refused, by the list of its tests.
use Rattle.local.specs.declared.Solved.{Solved}
use Rattle.std.specs.Prelude.{Err, Result}
use mathlib.Core.Path.{◌≡◌, refl, subst}
use mathlib.Core.Bool.{Bool, true, false, cond, not}
use mathlib.Core.Logic.{inl, inr}
use Prim.Native.Nat.{ℕ, ◌+◌}
use mathlib.Core.List.{[]}
use lib.Ieee.{Float, lt}
use Rattle.std.specs.Prelude.{Ok, Err, Option, None, Some, is_none}
use Rattle.claims.specs.Words.{zero64, Row, Matrix, Refusal, WeightSumNotPositive, Singular, InverseNotFinite, CoefficientNotFinite, Check, judge, Decides, GwrBandwidth, Setup, Data, local_bandwidth_distance, weights_at, equations_of, inverse_finite, coefficients_of, coefficients_finite, from_inverse, eliminated_of, coefficients_under, fit_coefficients, Values, solve_local, solve_location, Coefficients, from_eliminated, solved_by}
use Rattle.std.specs.Option.{unwrap_or}
use Rattle.claims.proofs.Laws.{AtLocation}
use Rattle.claims.specs.DemandOne.{solve_tests, Found, Met}

pub at_met : (r : Refusal) → AtLocation r → Met r
at_met r (inl e) = inl e
at_met r (inr (inl e)) = inr (inl e)
at_met r (inr (inr (inl e))) = inr (inr (inl e))
at_met r (inr (inr (inr e))) = inr (inr (inr (inl e)))

-- what the tests make of a solve
abbrev As : Check → Result Solved Refusal → Type 0
As (Ok passed) o = Found o
As (Err r) o = o ≡ Err r

module _ (u : Setup) (d : Data) (b : GwrBandwidth) (i : ℕ) where
  abbrev s : Row × Float
  s = weights_at u d i (local_bandwidth_distance d.coords u.n i b)

  abbrev w : Row
  w = s.0

  abbrev m : ℕ
  m = u.p + 1

  abbrev rhs : Row
  rhs = (equations_of u d w).rhs

  -- by the eliminated matrix, whether its inverse is finite, and whether the coefficients are
  abbrev tested_further : Bool → Bool → Check
  tested_further f g = cond (not f) (Err InverseNotFinite) (cond (not g) (Err CoefficientNotFinite) (Ok tt))

  abbrev tested : Option Matrix → Check
  tested e =
      let a = unwrap_or e [] in
      cond (is_none e) (Err Singular) (tested_further (inverse_finite a m) (coefficients_finite (coefficients_of a rhs m) m))

  two : (f g : Bool) (c : Coefficients) (v : Coefficients → Values)
      → As (tested_further f g) (solved_by (cond f (cond g (Ok c) (Err CoefficientNotFinite)) (Err InverseNotFinite)) v)
  unfolding solved_by
  two true true c v = tt
  two true false c v = refl
  two false g c v = refl

  three : (e : Option Matrix) (v : Coefficients → Values) → As (tested e) (solved_by (from_eliminated e rhs m) v)
  unfolding solved_by from_eliminated from_inverse
  three None v = refl
  three (Some a) v = two (inverse_finite a m) (coefficients_finite (coefficients_of a rhs m) m) _ v

  -- and before these by whether the weights sum to more than zero
  four : (z : Bool) (e : Option Matrix) (v : Coefficients → Values)
      → As (cond (not z) (Err WeightSumNotPositive) (tested e)) (solved_by (cond z (from_eliminated e rhs m) (Err WeightSumNotPositive)) v)
  unfolding solved_by
  four true e v = three e v
  four false e v = refl

  solve_as : As (judge (solve_tests u d b i)) (solve_location u d b i)
  unfolding judge solve_location solve_local fit_coefficients coefficients_under
  solve_as = four (lt zero64 s.1) (eliminated_of u d w) _

  pub solve_decides : Decides (solve_tests u d b i) (λ (r : Refusal). solve_location u d b i ≡ Err r) (Found (solve_location u d b i))
  solve_decides =
      record {
        refused = λ r h. subst (λ (c : Check). As c (solve_location u d b i)) h solve_as;
        served = λ h. subst (λ (c : Check). As c (solve_location u d b i)) h solve_as;
      }
