-- Digits that are written one after the other.
use mathlib.Core.Path.{◌≡◌, ap, ◌∙◌}
use mathlib.Core.Bool.{Bool, cond}
use mathlib.Core.List.{List, [], ◌∷◌, ◌++◌}
use Prim.Native.Nat.{ℕ, suc, ◌+◌, ◌-◌, ◌/◌, ◌%◌, ◌≤◌, ◌<◌}
use native.Mathlib.Omega.{arith}
use borrow.Author.Tests.{lt-ltb, le-ltb}
use lib.ListN.{length}
use Rattle.text.specs.Listing.{digit_of, hex_in, decimal_in, WrittenText}
use Rattle.text.proofs.Lines.{start, and_then}
use Rattle.text.proofs.Lengths.{length_hex_in, length_decimal_in}

short : (n v : ℕ) → 0 < n → v < 10 → decimal_in n v ≡ digit_of v ∷ []
unfolding decimal_in
short n v p small =
    let m : n ≡ suc (n - 1) = omega arith in
    ap (λ (k : ℕ). decimal_in k v) m ∙ ap (λ (t : Bool). cond t (digit_of v ∷ []) (decimal_in (n - 1) (v / 10) ++ (digit_of (v % 10) ∷ []))) (lt-ltb v 10 small)

module _ {d₀ : List ℕ} {at : ℕ} (n v : ℕ) where
  pub hex_none : n ≡ 0 → WrittenText d₀ at (hex_in n v) d₀ at
  unfolding hex_in
  hex_none z = rw z start

  pub hex_room : {d : List ℕ} {e : ℕ} → WrittenText d₀ at (hex_in (n - 1) (v / 16)) d e → 0 < n → at + n ≤ length d₀ → e < length d
  hex_room w p h = omega (arith, w.long, length_hex_in (n - 1) (v / 16))

  pub hex_next : {d d' : List ℕ} {e e' b : ℕ} → WrittenText d₀ at (hex_in (n - 1) (v / 16)) d e → WrittenText d e (b ∷ []) d' e' → 0 < n → at + n ≤ length d₀ → b ≡ digit_of (v % 16)
      → WrittenText d₀ at (hex_in n v) d' e'
  unfolding hex_in
  hex_next w last p h is =
      let m : n ≡ suc (n - 1) = omega arith in
      rw (m, ← is) (and_then w last (omega (arith, last.stop, w.long, hex_room w p h)))

  pub decimal_none : n ≡ 0 → WrittenText d₀ at (decimal_in n v) d₀ at
  unfolding decimal_in
  decimal_none z = rw z start

  pub decimal_last : {d : List ℕ} {e b : ℕ} → WrittenText d₀ at (b ∷ []) d e → 0 < n → v < 10 → b ≡ digit_of v → WrittenText d₀ at (decimal_in n v) d e
  decimal_last w p small is = rw (short n v p small, ← is) w

  pub decimal_room : {d : List ℕ} {e : ℕ} → WrittenText d₀ at (decimal_in (n - 1) (v / 10)) d e → 0 < n → at + n ≤ length d₀ → e < length d
  decimal_room w p h = omega (arith, w.long, length_decimal_in (n - 1) (v / 10))

  pub decimal_next : {d d' : List ℕ} {e e' b : ℕ} → WrittenText d₀ at (decimal_in (n - 1) (v / 10)) d e → WrittenText d e (b ∷ []) d' e' → 0 < n → at + n ≤ length d₀ → 10 ≤ v → b ≡ digit_of (v % 10)
      → WrittenText d₀ at (decimal_in n v) d' e'
  unfolding decimal_in
  decimal_next w last p h big is =
      let m : n ≡ suc (n - 1) = omega arith in
      rw (m, le-ltb v 10 big, ← is) (and_then w last (omega (arith, last.stop, w.long, decimal_room w p h)))
