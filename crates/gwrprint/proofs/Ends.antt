-- What was read into two parts of a buffer, one behind the other.
use mathlib.Core.Path.{◌≡◌, refl, sym, ap, subst⁻¹, ◌∙◌}
use mathlib.Core.Bool.{Bool, true, false}
use mathlib.Core.List.{List, ◌++◌}
use Prim.Native.Nat.{ℕ, ◌+◌, ◌-◌, ◌≤◌}
use native.Mathlib.Omega.{arith}
use borrow.Author.Tests.{ltb-true, ltb-false}
use lib.Dec.{ltb}
use lib.ListN.{length, take, length-take}
use lib.Seq.{take_at, take-append-le, take-append-add}
use Rattle.header.specs.Headers.{header_of}
use Rattle.listing.specs.Printed.{read_of}
use Rattle.header.specs.Headers.{asked}
use Rattle.listing.proofs.Reading.{asked_none, read_short, read_long}

-- m bytes were read into the first 40 bytes of l, which then hold a, with d behind them; and n into the k behind these, which then hold b
module _ (l a d b w : List ℕ) (m n k : ℕ) (room : 41000 ≤ length l) (head : (m ≤ length a) × (length a ≡ length (take 40 l))) (more : (k ≡ asked (header_of (take m (a ++ d)))) × (k ≤ 40960)) (rest : (n ≤ length b) × (length b ≡ length (take (40 + k - 40) w))) where
  full : length a ≡ 40
  full = omega (arith, head.1, length-take 40 l)

  few : n ≤ k
  few = omega (arith, rest.0, rest.1, length-take (40 + k - 40) w)

  pub both_most : m + n ≤ 41000
  both_most = omega (arith, head.0, full, few, more.1)

  abbrev got : List ℕ → List ℕ
  got s = take (m + n) (take 40 (a ++ d) ++ (b ++ s))

  -- no byte is read that is not asked for
  pub read_is : (s : List ℕ) → read_of (got s) ≡ got s
  read_is s = go (ltb m 40) refl
    where
      front : take 40 (a ++ d) ≡ a
      front = take_at a d 40 full

      go : (t : Bool) → ltb m 40 ≡ t → read_of (got s) ≡ got s
      go true e =
          let short = ltb-true m 40 e in
          let none : k ≡ 0 = more.0 ∙ asked_none (take m (a ++ d)) (omega (arith, length-take m (a ++ d))) in
          let same : m + n ≡ m = omega (arith, few, none) in
          let z : got s ≡ take m a = ap (λ (x : List ℕ). take (m + n) (x ++ (b ++ s))) front ∙ ap (λ (i : ℕ). take i (a ++ (b ++ s))) same ∙ take-append-le m a (b ++ s) head.0 in
          subst⁻¹ (λ (x : List ℕ). read_of x ≡ x) z (read_short (take m a) (omega (arith, length-take m a)))
      go false e =
          let forty : m ≡ 40 = omega (arith, head.0, full, ltb-false m 40 e) in
          let z : got s ≡ a ++ take n b =
          ap (λ (x : List ℕ). take (m + n) (x ++ (b ++ s))) front
          ∙ ap (λ (i : ℕ). take (i + n) (a ++ (b ++ s))) (forty ∙ sym full)
          ∙ take-append-add a (b ++ s) n
          ∙ ap (λ (x : List ℕ). a ++ x) (take-append-le n b s rest.0) in
          let most : k ≡ asked (header_of a) = more.0 ∙ ap (λ (i : ℕ). asked (header_of (take i (a ++ d)))) forty ∙ ap (λ (x : List ℕ). asked (header_of x)) front in
          subst⁻¹ (λ (x : List ℕ). read_of x ≡ x) z (read_long a (take n b) full (omega (arith, length-take n b, few, most)))

  pub read_asked : (s : List ℕ) → (m + n ≤ 41000) × (read_of (got s) ≡ got s)
  read_asked s = (both_most, read_is s)
