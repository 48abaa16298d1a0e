-- Cases of a test.
use Rattle.std.proofs.Common.{◌≡◌, ℕ, Bool, true, false, cond, not, T, refl, arith}

-- what holds of both holds of either
pub either : {A : Type 0} (P : A → Type 0) (b : Bool) (x y : A) → P x → P y → P (cond b x y)
either P true x y f g = f
either P false x y f g = g

-- each may rest on how the test came out
pub by_test : {A : Type 0} (P : A → Type 0) (b : Bool) (x y : A) → (b ≡ true → P x) → (b ≡ false → P y) → P (cond b x y)
by_test P true x y f g = f refl
by_test P false x y f g = g refl

-- by whether it holds
pub by_truth : {A : Type 0} (b : Bool) → (T b → A) → (T (not b) → A) → A
by_truth true f g = f tt
by_truth false f g = g tt

-- what cannot hold is denied
pub denied : (b : Bool) → (T b → ⊥) → not b ≡ true
denied true f = absurd (f tt)
denied false f = refl

pub never : {A : Type 0} → false ≡ true → A
never h = let z : ◌≡◌ {A = ℕ} 0 1 = cc in absurd (omega arith)
