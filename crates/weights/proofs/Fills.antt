-- Lists filled one place after the other.
use mathlib.Core.Path.{◌≡◌, refl, ◌∙◌}
use mathlib.Core.Logic.{inl, inr}
use mathlib.Core.List.{List, ◌++◌}
use Prim.Native.Nat.{ℕ, ◌+◌, ◌≤◌, ◌<◌}
use native.Mathlib.Nat.{not-suc-le-zero, eq-or-lt_of_le}
use native.Mathlib.Omega.{arith}
use lib.ListN.{length, get_or, set, take, drop, take-append-drop}
use Rattle.std.proofs.lemmas.List.{set-append_left}
use lib.Seq.{get_or-set_same, get_or-set_other}
use lib.Ieee.{Float, nan, binary64, add}
use Rattle.real.specs.Fold.{range}
use Rattle.real.specs.Reals.{zero64}
use Rattle.real.proofs.Fold.{Range, none, more, related}
use Rattle.kernel.specs.declared.GwrKernel.{GwrKernel}
use Rattle.weights.specs.Weights.{weigh_step}
use Rattle.weights.specs.Near.{near_distance, near_weight, near_weights, kernel_over, trusted_over, Filled}

module _ (f : ℕ → Float) where
  pub filled_none : (y : List Float) → Filled f 0 y
  filled_none y = record { at = λ j h. absurd (not-suc-le-zero h) }

  pub filled_more : (y : List Float) (j : ℕ) (x : Float) → Filled f j y → j < length y → x ≡ f j → Filled f (j + 1) (set y j x)
  filled_more y j x s inside e = record { at = λ i h. there i (let k : i ≤ j = omega (arith, h) in k) }
    where
      there : (i : ℕ) → i ≤ j → get_or (set y j x) i nan ≡ f i
      there i h =
          elim (eq-or-lt_of_le h) [
            | inl same ↦ rw same (get_or-set_same y j x nan inside ∙ e)
            | inr less ↦ get_or-set_other y j i x nan (λ same. not-suc-le-zero {n = 0} (omega (arith, less, same))) ∙ s.at i less
          ]

  pub filled_over : (y : List Float) (n j : ℕ) → Filled f j y → n ≤ j → Filled f n y
  filled_over y n j s h = record { at = λ i k. s.at i (omega (arith, h, k)) }

-- from place j on y is still z
pub record Unfilled (z : List Float) (j : ℕ) (y : List Float) : Type 0 where
  pub at : (i : ℕ) → j ≤ i → get_or y i nan ≡ get_or z i nan

pub unfilled_all : (z : List Float) (j : ℕ) → Unfilled z j z
unfilled_all z j = record { at = λ i h. refl }

pub unfilled_more : (z y : List Float) (j : ℕ) (x : Float) → Unfilled z j y → Unfilled z (j + 1) (set y j x)
unfilled_more z y j x s = record { at = λ i h. get_or-set_other y j i x nan (λ same. not-suc-le-zero {n = 0} (omega (arith, h, same))) ∙ s.at i (omega (arith, h)) }

-- ---- weights one by one with their sum, the first n of an array, with the others behind them
module _ (v : ℕ → Float) where
  pub unweighed : (n : ℕ) (w : List Float) → Range (weigh_step v) (w, zero64) 0 n 0 (take n w ++ drop n w, zero64)
  unweighed n w = rw (take-append-drop n w) (none (omega arith))

  pub weighed : {s : List Float × Float} {n j : ℕ} (front rest : List Float) (sum x : Float)
      → Range (weigh_step v) s 0 n j (front ++ rest, sum) → j < n → j < length front → x ≡ v j → Range (weigh_step v) s 0 n (j + 1) (set front j x ++ rest, add binary64 sum x)
  unfolding weigh_step
  weighed {j = j} front rest sum x r h within e = more r h (rw (← set-append_left front rest j x within, e) refl)

-- the weights over distances and kernel weights that were filled in before are those of the observations
pub filled_weights : (k : GwrKernel) (coords trust : List Float) (n : ℕ) (east north b : Float) (d v w : List Float) → Filled (near_distance coords east north) n d → Filled (kernel_over k b d) n v → range (weigh_step (trusted_over v trust)) 0 n (w, zero64) ≡ near_weights k coords trust n east north b w
unfolding weigh_step
filled_weights k coords trust n east north b d v w far weighed = related (weigh_step (trusted_over v trust)) (weigh_step (near_weight k coords trust east north b)) 0 n ◌≡◌ (λ j s t h e. step j s t h e) (w, zero64) (w, zero64) (omega arith) refl
  where
    step : (j : ℕ) (s t : List Float × Float) → j < n → s ≡ t → weigh_step (trusted_over v trust) j s ≡ weigh_step (near_weight k coords trust east north b) j t
    step j s t h e = rw (weighed.at j h, far.at j h, e)
