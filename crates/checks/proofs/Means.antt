-- From a Boolean test to mathematics: one law for each way of making a test.
use mathlib.Core.Path.{◌≡◌, refl, sym, ◌∙◌}
use mathlib.Core.Bool.{Bool, true, false, not, ◌&&◌, ◌||◌, true≢false}
use mathlib.Core.Logic.{◌⊎◌, inl, inr}
use Prim.Native.Nat.{ℕ, ◌<◌}
use borrow.Author.Tests.{eqb-true, ltb-true, eq-eqb, lt-ltb}
use lib.Dec.{T, eqb, ltb}
use Rattle.checks.specs.Judge.{Means}

-- a test that does not hold
pub fails : {b : Bool} {P : Type 0} → Means b P → b ≡ false → P → ⊥
fails m e p = true≢false (sym (m.1 p) ∙ e)

pub true_means : (b : Bool) → Means b (T b)
true_means true = (λ e. tt, λ h. refl)
true_means false = (λ e. absurd (true≢false (sym e)), λ h. absurd h)

pub never_means : Means false ⊥
never_means = (λ e. absurd (true≢false (sym e)), λ h. absurd h)

pub not_means : (b : Bool) {P : Type 0} → Means b P → Means (not b) (P → ⊥)
not_means true m = (λ e. absurd (true≢false (sym e)), λ h. absurd (h (m.0 refl)))
not_means false m = (λ e p. fails m refl p, λ h. refl)

pub and_means : (a b : Bool) {P Q : Type 0} → Means a P → Means b Q → Means (a && b) (P × Q)
and_means true b m n = (λ e. (m.0 refl, n.0 e), λ h. n.1 h.1)
and_means false b m n = (λ e. absurd (true≢false (sym e)), λ h. m.1 h.0)

pub or_means : (a b : Bool) {P Q : Type 0} → Means a P → Means b Q → Means (a || b) (P ⊎ Q)
or_means true b m n = (λ e. inl (m.0 refl), λ h. refl)
or_means false b {P} {Q} m n = (λ e. inr (n.0 e), back)
  where
    back : P ⊎ Q → b ≡ true
    back (inl p) = absurd (fails m refl p)
    back (inr q) = n.1 q

module _ (a b : ℕ) where
  pub equal_means : Means (eqb a b) (a ≡ b)
  equal_means = (eqb-true a b, eq-eqb a b)

  pub differ_means : Means (not (eqb a b)) (a ≡ b → ⊥)
  differ_means = not_means (eqb a b) equal_means

  pub below_means : Means (ltb a b) (a < b)
  below_means = (ltb-true a b, lt-ltb a b)
