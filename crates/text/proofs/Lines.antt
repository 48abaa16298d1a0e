-- Text that is written in steps.
use mathlib.Core.Path.{◌≡◌, refl, sym, ap, ◌∙◌}
use mathlib.Core.List.{List, [], ◌∷◌, ◌++◌}
use Prim.Native.Nat.{ℕ, ◌+◌, ◌-◌, ◌≤◌, ◌<◌}
use native.Mathlib.Nat.{add-zero}
use native.Mathlib.Omega.{arith}
use lib.Seq.{drop-drop}
use lib.ListN.{length, take, drop, set, length-append, length-set, take-append-drop}
use Rattle.wire.specs.Wire.{placed}
use Rattle.wire.proofs.Placed.{placed_more, placed_one, length_placed}
use Rattle.text.specs.Listing.{WrittenText}

-- nothing yet
pub start : {d : List ℕ} {at : ℕ} → WrittenText d at [] d at
unfolding placed
start {d} {at} = record { is = sym (ap (λ (k : ℕ). take at d ++ drop k d) (add-zero at) ∙ take-append-drop at d); stop = sym (add-zero at); long = refl }

-- one byte
pub byte : {d : List ℕ} {at : ℕ} (b : ℕ) → at < length d → WrittenText d at (b ∷ []) (set d at b) (at + 1)
byte {d} {at} b h = record { is = placed_one d at b h; stop = refl; long = length-set d at b }

-- a line, and more of it
pub and_then : {d₀ d₁ d₂ : List ℕ} {at e₁ e₂ : ℕ} {line more : List ℕ} → WrittenText d₀ at line d₁ e₁ → WrittenText d₁ e₁ more d₂ e₂ → e₂ ≤ length d₀
    → WrittenText d₀ at (line ++ more) d₂ e₂
and_then {d₀} {d₁} {d₂} {at} {e₁} {e₂} {line} {more} w v h =
    record {
      is = v.is ∙ ap (λ (d : List ℕ). placed d e₁ more) w.is ∙ ap (λ (e : ℕ). placed (placed d₀ at line) e more) w.stop ∙ placed_more d₀ at line more (omega arith);
      stop = rw length-append (omega arith);
      long = v.long ∙ w.long;
    }

-- a word copied into its part
pub word_part : (d : List ℕ) (at : ℕ) (word part : List ℕ) → part ≡ word → at + length word ≤ length d → WrittenText d at word (take at d ++ (part ++ drop (at + length word - at) (drop at d))) (at + length word)
unfolding placed
word_part d at word part is h =
    let behind : at + (at + length word - at) ≡ at + length word = omega arith in
    let whole : take at d ++ (part ++ drop (at + length word - at) (drop at d)) ≡ placed d at word = rw (is, drop-drop (at + length word - at) at d, behind) in
    record { is = whole; stop = refl; long = ap length whole ∙ length_placed d at word h }

-- of the bytes lent, once they are back, and of the number as it is
pub text_is : {d₀ d d' : List ℕ} {at e : ℕ} {line : List ℕ} → d' ≡ d → WrittenText d₀ at line d e → WrittenText d₀ at line d' e
text_is back w = rw back w
