-- What 27, 15 and 16 ask in plain mathematics: the weights sum to NaN or at most zero; some cell of the inverse, or some coefficient, is NaN or infinite.
use mathlib.Core.Path.{◌≡◌, refl, sym, ap, subst, subst⁻¹, ◌∙◌}
use mathlib.Core.Bool.{Bool, true, false, not, ◌&&◌}
use mathlib.Core.Logic.{◌↔◌, ◌⊎◌, inl, inr}
use Prim.Native.Nat.{ℕ, zero, suc, ◌+◌, ◌<◌}
use native.Mathlib.Nat.{zero-add, sub-zero}
use native.Mathlib.Omega.{arith}
use lib.Dec.{T}
use lib.ListN.{get_or}
use lib.Ieee.{Float, nan, inf, fin, lt, le, is_nan, of_bits}
use lib.Ieee.Scale.{finite}
use Rattle.real.specs.Fold.{turns, range}
use Rattle.real.specs.Matrix.{Row, Matrix}
use Rattle.real.proofs.SignedOrder.{here_or_on, apart, nlt→le}
use Rattle.real.proofs.Cases.{by_truth, denied}
use Rattle.real.proofs.Values.{number_zero}
use Rattle.real.specs.Reals.{zero64}
use Rattle.estimate.specs.Inverse.{all_step, all_below, inverse_cell, inverse_row_finite, inverse_finite}
use Rattle.estimate.specs.Estimate.{coefficients_finite}

-- P of some number below m
abbrev Some : ℕ → (ℕ → Type 0) → Type 0
Some m P = (q : ℕ) × (q < m) × P q

never : {A : Type 0} → true ≡ false → A
never e = absurd (subst T e tt)

and_true : (a b : Bool) → (a && b) ≡ true → (a ≡ true) × (b ≡ true)
and_true true b e = (refl, e)
and_true false b e = never (sym e)

module _ (f : ℕ → Bool) where
  turns_not : (m : ℕ) → turns (all_step f) 0 m true ≡ false → Some m (λ (q : ℕ). f q ≡ false)
  unfolding turns all_step
  turns_not zero e = never e
  turns_not (suc m) e = go (turns (all_step f) 0 m true) refl (λ h. turns_not m h) e
    where
      go : (b : Bool) → turns (all_step f) 0 m true ≡ b → (turns (all_step f) 0 m true ≡ false → Some m (λ (q : ℕ). f q ≡ false)) → (b && f (0 + m)) ≡ false → Some (suc m) (λ (q : ℕ). f q ≡ false)
      go true t r h = (m, omega arith, rw zero-add at h)
      go false t r h = let z = r t in (z.0, omega (arith, z.1), z.2)

  turns_are : (m : ℕ) → turns (all_step f) 0 m true ≡ true → (q : ℕ) → q < m → f q ≡ true
  unfolding turns all_step
  turns_are zero e q h = absurd (omega arith)
  turns_are (suc m) e q h =
      let z = and_true (turns (all_step f) 0 m true) (f (0 + m)) e in
      let last : f m ≡ true = rw zero-add at z.1 in
      elim (here_or_on q m) [
        | inl l ↦ turns_are m z.0 q l
        | inr l ↦ let same : q ≡ m = omega arith in ap f same ∙ last
      ]

  all_not : (m : ℕ) → all_below f m ≡ false → Some m (λ (q : ℕ). f q ≡ false)
  unfolding all_below range
  all_not m e = turns_not m (rw sub-zero at e)

  all_are : (m : ℕ) → all_below f m ≡ true → (q : ℕ) → q < m → f q ≡ true
  unfolding all_below range
  all_are m e = turns_are m (rw sub-zero at e)

unfit : (v : Float) → finite v ≡ false → T (not (finite v))
unfit v e = subst⁻¹ (λ (b : Bool). T (not b)) e tt

fit_not : (v : Float) → finite v ≡ true → T (not (finite v)) → ⊥
fit_not v e h = subst (λ (b : Bool). T (not b)) e h

-- a test that says no is one that does not say yes
decide : (b : Bool) {P : Type 0} → (b ≡ false → P) → (b ≡ true → P → ⊥) → (not b ≡ true) ↔ P
decide true f g = (λ e. never (sym e), λ p. absurd (g refl p))
decide false f g = (λ e. f refl, λ p. refl)

module _ (a : Matrix) (m : ℕ) where
  pub inverse_not_finite_means : (not (inverse_finite a m) ≡ true) ↔ Some m (λ (r : ℕ). Some m (λ (c : ℕ). T (not (finite (inverse_cell a m r c)))))
  unfolding inverse_finite inverse_row_finite
  inverse_not_finite_means =
      decide (inverse_finite a m)
      (λ e.
      let r = all_not (inverse_row_finite a m) m e in
      let c = all_not (λ (q : ℕ). finite (inverse_cell a m r.0 q)) m r.2 in
      (r.0, r.1, (c.0, c.1, unfit (inverse_cell a m r.0 c.0) c.2)))
      (λ e h.
      let r = all_are (inverse_row_finite a m) m e h.0 h.1 in
      let c = h.2 in
      fit_not (inverse_cell a m h.0 c.0) (all_are (λ (q : ℕ). finite (inverse_cell a m h.0 q)) m r c.0 c.1) c.2)

pub coefficient_not_finite_means : (beta : Row) (m : ℕ) → (not (coefficients_finite beta m) ≡ true) ↔ Some m (λ (c : ℕ). T (not (finite (get_or beta c nan))))
unfolding coefficients_finite
coefficient_not_finite_means beta m =
    decide (coefficients_finite beta m)
    (λ e. let c = all_not (λ (q : ℕ). finite (get_or beta q nan)) m e in (c.0, c.1, unfit (get_or beta c.0 nan) c.2))
    (λ e h. fit_not (get_or beta h.0 nan) (all_are (λ (q : ℕ). finite (get_or beta q nan)) m e h.0 h.1) h.2)

-- a sum of weights that is not above zero
pub weightless_means : (sum : Float) → (not (lt zero64 sum) ≡ true) ↔ (T (is_nan sum) ⊎ T (le sum zero64))
weightless_means sum = (λ e. by_truth (is_nan sum) (λ k. inl k) (λ n. inr (nlt→le zero64 sum number_zero n (subst⁻¹ T e tt))), λ h. denied (lt zero64 sum) (below h))
  where
    not_nan : (x : Float) → T (is_nan x) → T (lt zero64 x) → ⊥
    not_nan nan a b = unfold lt of_bits in b
    not_nan (inf s) a b = unfold is_nan in a
    not_nan (fin s m e) a b = unfold is_nan in a

    below : T (is_nan sum) ⊎ T (le sum zero64) → T (lt zero64 sum) → ⊥
    below (inl k) l = not_nan sum k l
    below (inr k) l = apart zero64 sum l k
