-- Options from numbers: what the code comes to, and what 18 asks, in plain mathematics.
use mathlib.Core.Path.{◌≡◌, refl, sym, ap, subst, ◌∙◌}
use mathlib.Core.Bool.{Bool, true, false, cond, true≢false}
use Prim.Native.Nat.{ℕ, ◌≤◌, ◌<◌}
use native.Mathlib.Omega.{arith}
use borrow.Author.Tests.{eqb-true, eqb-false}
use lib.Dec.{eqb}
use Rattle.std.specs.Prelude.{Result, Ok, Err}
use Rattle.real.proofs.Cases.{either}
use Rattle.refusal.specs.declared.Refusal.{Refusal}
use Rattle.refusal.specs.declared.Refusal.TheVariants.{UnknownNumber}
use Rattle.setup.specs.declared.GwrCriterion.TheVariants.{Unguarded}
use Rattle.setup.specs.declared.GwrOptions.{GwrOptions}
use Rattle.request.specs.Options.{kernel_of, is_unknown_kernel, named_kernel, kind_of, options_of, is_unknown, named}
use mathlib.Core.Logic.{◌⊎◌, inl, inr}
use Rattle.kernel.specs.declared.GwrKernel.{GwrKernel}
use Rattle.kernel.specs.declared.GwrKernel.TheVariants.{Gaussian, Bisquare, Exponential}
use Rattle.checks.specs.Judge.{Means}

abbrev Kernel : Type 0
Kernel = Result GwrKernel Refusal

abbrev Choice : Type 0
Choice = Result GwrOptions Refusal

-- the options of a kernel that was read
abbrev pub options_with : Result GwrKernel Refusal → ℕ → ℕ → Result GwrOptions Refusal
options_with k kind bandwidth = cond (is_unknown_kernel k) (Err UnknownNumber) (kind_of (named_kernel k) kind bandwidth)

-- ---- 18

abbrev KernelSays : Kernel → ℕ → Type 0
KernelSays (Ok k) number = number ≤ 2
KernelSays (Err r) number = (2 < number) × (r ≡ UnknownNumber)

kernel_says : (number : ℕ) → KernelSays (kernel_of number) number
unfolding kernel_of
kernel_says number = go (eqb number 0) (eqb number 1) (eqb number 2) refl refl refl
  where
    go : (a b c : Bool) → eqb number 0 ≡ a → eqb number 1 ≡ b → eqb number 2 ≡ c
        → KernelSays (cond a (Ok Gaussian) (cond b (Ok Bisquare) (cond c (Ok Exponential) (Err UnknownNumber)))) number
    go true b c e f g = omega (arith, eqb-true number 0 e)
    go false true c e f g = omega (arith, eqb-true number 1 f)
    go false false true e f g = omega (arith, eqb-true number 2 g)
    go false false false e f g =
        let x : number ≡ 0 → ⊥ = eqb-false _ _ e in
        let y : number ≡ 1 → ⊥ = eqb-false _ _ f in
        let z : number ≡ 2 → ⊥ = eqb-false _ _ g in
        (omega arith, refl)

-- 18 alone refuses a kernel's number
pub kernel_refused : (number : ℕ) {r : Refusal} → kernel_of number ≡ Err r → r ≡ UnknownNumber
kernel_refused number e = (subst (λ (z : Kernel). KernelSays z number) e (kernel_says number)).1

abbrev KindSays : Choice → ℕ → Type 0
KindSays (Ok o) kind = kind ≤ 3
KindSays (Err r) kind = (3 < kind) × (r ≡ UnknownNumber)

kind_says : (k : GwrKernel) (kind bandwidth : ℕ) → KindSays (kind_of k kind bandwidth) kind
unfolding kind_of
kind_says k kind bandwidth = go (eqb kind 0) (eqb kind 1) (eqb kind 2) (eqb kind 3) refl refl refl refl _ _ _ _
  where
    go : (a b c d : Bool) → eqb kind 0 ≡ a → eqb kind 1 ≡ b → eqb kind 2 ≡ c → eqb kind 3 ≡ d → (o o' q q' : GwrOptions)
        → KindSays (cond a (Ok o) (cond b (Ok o') (cond c (Ok q) (cond d (Ok q') (Err UnknownNumber))))) kind
    go true b c d e f g h o o' q q' = omega (arith, eqb-true kind 0 e)
    go false true c d e f g h o o' q q' = omega (arith, eqb-true kind 1 f)
    go false false true d e f g h o o' q q' = omega (arith, eqb-true kind 2 g)
    go false false false true e f g h o o' q q' = omega (arith, eqb-true kind 3 h)
    go false false false false e f g h o o' q q' =
        let x : kind ≡ 0 → ⊥ = eqb-false _ _ e in
        let y : kind ≡ 1 → ⊥ = eqb-false _ _ f in
        let z : kind ≡ 2 → ⊥ = eqb-false _ _ g in
        let w : kind ≡ 3 → ⊥ = eqb-false _ _ h in
        (omega arith, refl)

-- 01: 0, 1, 2 are kernels
pub unknown_kernel_means : (number : ℕ) → Means (is_unknown_kernel (kernel_of number)) (2 < number)
unknown_kernel_means number = go (kernel_of number) (kernel_says number)
  where
    go : (c : Kernel) → KernelSays c number → Means (is_unknown_kernel c) (2 < number)
    go (Ok k) h = (λ e. absurd (true≢false (sym e)), λ z. absurd (omega (arith, h, z)))
    go (Err r) h = (λ e. h.0, λ z. refl)

-- and 0 to 3 kinds
pub unknown_means : (number kind bandwidth : ℕ) → Means (is_unknown (options_of number kind bandwidth)) ((2 < number) ⊎ (3 < kind))
unfolding options_of
unknown_means number kind bandwidth = go (kernel_of number) (kernel_says number)
  where
    within : number ≤ 2 → kind ≤ 3 → (2 < number) ⊎ (3 < kind) → ⊥
    within h k (inl z) = omega (arith, h, z)
    within h k (inr z) = omega (arith, k, z)

    then : (c : Choice) → number ≤ 2 → KindSays c kind → Means (is_unknown c) ((2 < number) ⊎ (3 < kind))
    then (Ok o) h s = (λ e. absurd (true≢false (sym e)), λ z. absurd (within h s z))
    then (Err r) h s = (λ e. inr s.0, λ z. refl)

    go : (k : Kernel) → KernelSays k number → Means (is_unknown (options_with k kind bandwidth)) ((2 < number) ⊎ (3 < kind))
    go (Ok k) h = then (kind_of k kind bandwidth) h (kind_says k kind bandwidth)
    go (Err r) h = (λ e. inl h.0, λ z. refl)

-- 18 alone refuses numbers
pub options_refused : (number kind bandwidth : ℕ) {r : Refusal} → options_of number kind bandwidth ≡ Err r → r ≡ UnknownNumber
unfolding options_of
options_refused number kind bandwidth e = subst Alone e (either Alone (is_unknown_kernel (kernel_of number)) _ _ refl (alone _ (kind_says (named_kernel (kernel_of number)) kind bandwidth)))
  where
    Alone : Choice → Type 0
    Alone (Ok o) = Unit {0}
    Alone (Err r) = r ≡ UnknownNumber

    alone : (c : Choice) → KindSays c kind → Alone c
    alone (Ok o) s = tt
    alone (Err r) s = s.1

-- where 18 is not owed, the options and the kernel are those that the numbers name
pub options_known : (c : Choice) → is_unknown c ≡ false → c ≡ Ok (named c)
options_known (Ok o) e = refl
options_known (Err r) e = absurd (true≢false e)

pub kernel_known : (c : Kernel) → is_unknown_kernel c ≡ false → c ≡ Ok (named_kernel c)
kernel_known (Ok k) e = refl
kernel_known (Err r) e = absurd (true≢false e)

-- ---- the criterion: bytes know 000's alone

kind_unguarded : (k : GwrKernel) (kind bandwidth : ℕ) → (named (kind_of k kind bandwidth)).criterion ≡ Unguarded
unfolding kind_of
kind_unguarded k kind bandwidth = either Plain (eqb kind 0) _ _ refl (either Plain (eqb kind 1) _ _ refl (either Plain (eqb kind 2) _ _ refl (either Plain (eqb kind 3) _ _ refl refl)))
  where
    Plain : Choice → Type 0
    Plain c = (named c).criterion ≡ Unguarded

pub bytes_unguarded : (number kind bandwidth : ℕ) → (named (options_of number kind bandwidth)).criterion ≡ Unguarded
unfolding options_of
bytes_unguarded number kind bandwidth = either (λ (c : Choice). (named c).criterion ≡ Unguarded) (is_unknown_kernel (kernel_of number)) _ _ refl (kind_unguarded (named_kernel (kernel_of number)) kind bandwidth)

-- ---- what the code comes to

module _ (number kind bandwidth : ℕ) where
  pub kernel_named : {k : GwrKernel} → kernel_of number ≡ Ok k → kind_of k kind bandwidth ≡ options_of number kind bandwidth
  unfolding options_of
  kernel_named e = sym (ap (λ (z : Kernel). options_with z kind bandwidth) e)

  pub kernel_unnamed : {r : Refusal} → kernel_of number ≡ Err r → Err r ≡ options_of number kind bandwidth
  unfolding options_of
  kernel_unnamed e = ap Err (kernel_refused number e) ∙ sym (ap (λ (z : Kernel). options_with z kind bandwidth) e)
