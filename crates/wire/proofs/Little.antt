-- The library's words for a number's bytes are this crate's.
use mathlib.Core.Path.{◌≡◌, ap, ◌∙◌}
use mathlib.Core.List.{List, [], ◌∷◌}
use Prim.Native.Nat.{ℕ, suc, ◌+◌, ◌≤◌}
use native.Mathlib.Nat.{div-div-eq-div-mul}
use native.Mathlib.Omega.{arith}
use lib.ListN.{length, take, drop, get_or}
use lib.Seq.{drop-cons, take-take}
use Rattle.std.specs.Int.{w64, to_le_bytes, from_le_bytes}
use Rattle.wire.specs.Wire.{bytes_of, low_bytes, number_of, load_of}

-- eight elements of a list
eight : (s : List ℕ) (at : ℕ) → at + 8 ≤ length s
    → take 8 (drop at s) ≡ get_or s at 0 ∷ get_or s (at + 1) 0 ∷ get_or s (at + 2) 0 ∷ get_or s (at + 3) 0 ∷ get_or s (at + 4) 0 ∷ get_or s (at + 5) 0 ∷ get_or s (at + 6) 0 ∷ get_or s (at + 7) 0 ∷ []
eight s at h =
    let e₁ : at + 1 ≡ suc at = omega arith in
    let e₂ : at + 2 ≡ suc (suc at) = omega arith in
    let e₃ : at + 3 ≡ suc (suc (suc at)) = omega arith in
    let e₄ : at + 4 ≡ suc (suc (suc (suc at))) = omega arith in
    let e₅ : at + 5 ≡ suc (suc (suc (suc (suc at)))) = omega arith in
    let e₆ : at + 6 ≡ suc (suc (suc (suc (suc (suc at))))) = omega arith in
    let e₇ : at + 7 ≡ suc (suc (suc (suc (suc (suc (suc at)))))) = omega arith in
    rw (e₁, e₂, e₃, e₄, e₅, e₆, e₇, drop-cons s at 0 (omega arith), drop-cons s (suc at) 0 (omega arith), drop-cons s (suc (suc at)) 0 (omega arith), drop-cons s (suc (suc (suc at))) 0 (omega arith), drop-cons s (suc (suc (suc (suc at)))) 0 (omega arith), drop-cons s (suc (suc (suc (suc (suc at))))) 0 (omega arith), drop-cons s (suc (suc (suc (suc (suc (suc at)))))) 0 (omega arith), drop-cons s (suc (suc (suc (suc (suc (suc (suc at))))))) 0 (omega arith))

of_eight : (a b c d e f g h : ℕ) → from_le_bytes w64 (a ∷ b ∷ c ∷ d ∷ e ∷ f ∷ g ∷ h ∷ []) ≡ number_of (a ∷ b ∷ c ∷ d ∷ e ∷ f ∷ g ∷ h ∷ [])
unfolding number_of
of_eight a b c d e f g h = omega arith

-- the first chunk of what lies from `at` on
pub loaded : (s : List ℕ) (at n : ℕ) → at + 8 ≤ length s → 8 ≤ n → from_le_bytes w64 (take 8 (take n (drop at s))) ≡ load_of s at
unfolding load_of
loaded s at n h m = ap (from_le_bytes w64) (take-take 8 n (drop at s) m) ∙ rw (eight s at h) (of_eight _ _ _ _ _ _ _ _)

pub stored : (v : ℕ) → to_le_bytes w64 v ≡ bytes_of v
unfolding bytes_of low_bytes
stored v = simp div-div-eq-div-mul
