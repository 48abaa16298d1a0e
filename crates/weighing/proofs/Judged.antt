-- The weight call goes by its list of tests, and what 9 asks, in plain mathematics.
use mathlib.Core.Path.{◌≡◌, refl, sym, ap, ◌∙◌, subst, subst⁻¹}
use mathlib.Core.Bool.{Bool, true, false, cond, not, true≢false}
use mathlib.Core.List.{List, ◌++◌}
use Prim.Native.Nat.{ℕ, ◌+◌}
use lib.Dec.{ltb, T}
use lib.ListN.{length, take, drop}
use lib.Ieee.{Float, le, nan, inf, fin, lt, eq, is_nan, of_bits}
use Rattle.std.specs.Prelude.{Option, Some, None, Ok, Err}
use Rattle.real.specs.Reals.{zero64}
use Rattle.wire.specs.Wire.{real_of, placed, bytes_of}
use Rattle.refusal.specs.Numbers.{refusal_number}
use Rattle.refusal.specs.declared.Refusal.{Refusal}
use Rattle.refusal.specs.declared.Refusal.TheVariants.{OutputTooShort, CoordinateNotFinite}
use Rattle.kernel.specs.declared.GwrKernel.{GwrKernel}
use Rattle.kernel.specs.Weight.{weight_of, weighed}
use Rattle.checks.specs.Judge.{Check, judge, ruled, NoneOf, Decides, Means}
use Rattle.checks.proofs.Judge.{none_head, decides}
use Rattle.request.specs.Options.{kernel_of, named_kernel}
use Rattle.request.proofs.Options.{kernel_known, kernel_refused}
use Rattle.weighing.specs.Weighing.{distance_tests, weight_tests, refused_weight, given_weight, weight_bytes, placed_weight, weighed_bytes}
use mathlib.Core.Logic.{◌⊎◌, inl, inr}
use Rattle.real.proofs.SignedOrder.{apart, nlt→le}
use Rattle.real.proofs.Values.{number_zero}
use Rattle.wire.proofs.Numbers.{length_bytes_of}

pub both : {n m : ℕ} {a b : List ℕ} → n ≡ m → a ≡ b → ◌≡◌ {A = ℕ × List ℕ} (n, a) (m, b)
both p q = cc

-- one number at the front
pub front_placed : (s : List ℕ) (v : ℕ) → take 0 s ++ (bytes_of v ++ drop (0 + 8) s) ≡ placed s 0 (bytes_of v)
unfolding placed
front_placed s v = sym (ap (λ (n : ℕ). take 0 s ++ (bytes_of v ++ drop (0 + n) s)) (length_bytes_of v))

-- `weigh_distance` refuses exactly a NaN or negative distance
pub weigh_decides : (k : GwrKernel) (d b : Float) → Decides (distance_tests d) (λ (r : Refusal). weighed k d b ≡ None) (weighed k d b ≡ Some (weight_of k d b))
unfolding weighed judge
weigh_decides k d b = record { refused = λ r e. bad (le zero64 d) r e; served = λ e. good (le zero64 d) e }
  where
    bad : (c : Bool) (r : Refusal) → ◌≡◌ {A = Check} (cond (not c) (Err CoordinateNotFinite) (Ok tt)) (Err r) → cond c (Some (weight_of k d b)) None ≡ None
    bad true r e = cc
    bad false r e = refl

    good : (c : Bool) → ◌≡◌ {A = Check} (cond (not c) (Err CoordinateNotFinite) (Ok tt)) (Ok tt) → cond c (Some (weight_of k d b)) None ≡ Some (weight_of k d b)
    good true e = refl
    good false e = cc

module _ (number d b : ℕ) (out : List ℕ) where
  -- 18
  pub weight_unknown : {r : Refusal} → kernel_of number ≡ Err r → weight_bytes number d b out ≡ (refusal_number r, out)
  unfolding weight_bytes weight_tests judge ruled
  weight_unknown e = rw e (ap (λ (z : Refusal). (refusal_number z, out)) (sym (kernel_refused number e)))

  -- 13, 9 and the weight
  behind_18 : (k : GwrKernel) → kernel_of number ≡ Ok k → weight_bytes number d b out ≡ weighed_bytes (weighed k (real_of d) (real_of b)) out
  unfolding weight_bytes weight_tests weighed_bytes weighed judge ruled
  behind_18 k e = rw e (go (ltb (length out) 8) (le zero64 (real_of d)))
    where
      w : Float
      w = weight_of k (real_of d) (real_of b)

      go : (s f : Bool)
          → ruled (cond s (Err OutputTooShort) (cond (not f) (Err CoordinateNotFinite) (Ok tt))) (λ (r : Refusal). refused_weight r out) (given_weight w out)
          ≡ cond s (refused_weight OutputTooShort out) (placed_weight (cond f (Some w) None) out)
      go true f = refl
      go false true = refl
      go false false = refl

  -- the weight of a known kernel, as the code comes to it
  pub weight_weighed : (k : GwrKernel) (x y : Float) (w : Option Float) → kernel_of number ≡ Ok k → x ≡ real_of d → y ≡ real_of b → w ≡ weighed k x y → weighed_bytes w out ≡ weight_bytes number d b out
  weight_weighed k x y w e ex ey ew =
      ap (λ (z : Option Float). weighed_bytes z out) (ew ∙ ap (λ (z : Float). weighed k z y) ex ∙ ap (λ (z : Float). weighed k (real_of d) z) ey) ∙ sym (behind_18 k e)

  pub weight_decides : Decides (weight_tests number d (length out)) (λ (r : Refusal). weight_bytes number d b out ≡ refused_weight r out) (weight_bytes number d b out ≡ given_weight (weight_of (named_kernel (kernel_of number)) (real_of d) (real_of b)) out)
  unfolding weight_bytes
  weight_decides = decides (weight_tests number d (length out)) refl

pub weight_known : (number d out : ℕ) → NoneOf (weight_tests number d out) → kernel_of number ≡ Ok (named_kernel (kernel_of number))
unfolding weight_tests
weight_known number d out h = kernel_known (kernel_of number) (none_head _ _ _ h).0

-- ---- 9

not_from_zero : (d : Float) → le zero64 d ≡ false → T (is_nan d) ⊎ T (lt d zero64)
not_from_zero d e = go (is_nan d) refl (lt d zero64) refl
  where
    go : (m : Bool) → is_nan d ≡ m → (b : Bool) → lt d zero64 ≡ b → T (is_nan d) ⊎ T (lt d zero64)
    go true f b g = inl (subst⁻¹ T f tt)
    go false f true g = inr (subst⁻¹ T g tt)
    go false f false g =
        absurd (subst T e (nlt→le d zero64 (subst⁻¹ (λ (z : Bool). T (not z)) f tt) number_zero (subst⁻¹ (λ (z : Bool). T (not z)) g tt)))

nan_not : (d : Float) → T (is_nan d) → T (le zero64 d) → ⊥
unfolding is_nan le lt eq of_bits
nan_not nan h k = k
nan_not (inf s) h k = h
nan_not (fin s m e) h k = h

from_zero : (d : Float) → le zero64 d ≡ true → T (is_nan d) ⊎ T (lt d zero64) → ⊥
from_zero d e (inl h) = nan_not d h (subst⁻¹ T e tt)
from_zero d e (inr h) = apart d zero64 h (subst⁻¹ T e tt)

-- a distance that is NaN or negative
pub distance_means : (d : Float) → Means (not (le zero64 d)) (T (is_nan d) ⊎ T (lt d zero64))
distance_means d = go (le zero64 d) refl
  where
    go : (b : Bool) → le zero64 d ≡ b → Means (not b) (T (is_nan d) ⊎ T (lt d zero64))
    go true e = (λ k. absurd (true≢false (sym k)), λ h. absurd (from_zero d e h))
    go false e = (λ k. not_from_zero d e, λ h. refl)
