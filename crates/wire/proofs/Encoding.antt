-- The loop of `encode`: the bytes of the first k reals, and then what was there.
use mathlib.Core.Path.{◌≡◌, refl, sym, ap, ◌∙◌}
use mathlib.Core.List.{List, [], ◌∷◌, ◌++◌, append_assoc, append-nil}
use Prim.Native.Nat.{ℕ, ◌+◌, ◌*◌, ◌<◌}
use native.Mathlib.Numerals.{add-one}
use native.Mathlib.Omega.{arith}
use lib.ListN.{length, take, drop, get_or, length-append}
use lib.Seq.{length-take-le, take-suc, take_at, drop_at, drop-drop}
use lib.Ieee.{Float, nan}
use Rattle.wire.specs.Wire.{real_bytes, bytes_of, bits_of}
use Rattle.wire.proofs.Numbers.{length_bytes_of}

pub length_real_bytes : (xs : List Float) → length (real_bytes xs) ≡ 8 * length xs
unfolding real_bytes
length_real_bytes [] = refl
length_real_bytes (x ∷ xs) = length-append (bytes_of (bits_of x)) (real_bytes xs) ∙ omega (arith, length_bytes_of (bits_of x), length_real_bytes xs)

pub real_bytes_append : (xs ys : List Float) → real_bytes (xs ++ ys) ≡ real_bytes xs ++ real_bytes ys
unfolding real_bytes
real_bytes_append [] ys = refl
real_bytes_append (x ∷ xs) ys = ap (λ (l : List ℕ). bytes_of (bits_of x) ++ l) (real_bytes_append xs ys) ∙ sym (append_assoc (bytes_of (bits_of x)) (real_bytes xs) (real_bytes ys))

-- one real more
real_bytes_next : (xs : List Float) (k : ℕ) → k < length xs → real_bytes (take (k + 1) xs) ≡ real_bytes (take k xs) ++ bytes_of (bits_of (get_or xs k nan))
unfolding real_bytes
real_bytes_next xs k h =
    ap real_bytes (ap (λ (n : ℕ). take n xs) (add-one k) ∙ take-suc xs k nan h)
    ∙ real_bytes_append (take k xs) (get_or xs k nan ∷ [])
    ∙ ap (λ (l : List ℕ). real_bytes (take k xs) ++ l) (append-nil (bytes_of (bits_of (get_or xs k nan))))

pub record Encoding (from : List Float) (s₀ : List ℕ) (k : ℕ) (s : List ℕ) : Type 0 where
  pub is : s ≡ real_bytes (take k from) ++ drop (8 * k) s₀

module _ {from : List Float} {s₀ : List ℕ} where
  pub start : Encoding from s₀ 0 s₀
  unfolding real_bytes
  start = record { is = refl }

  pub next : {k : ℕ} {s t : List ℕ} {b : ℕ} → Encoding from s₀ k s → k < length from → b ≡ bits_of (get_or from k nan)
      → t ≡ take (8 * k) s ++ (bytes_of b ++ drop (8 * k + 8) s) → Encoding from s₀ (k + 1) t
  next {k} {s} {t} {b} c h e stored =
      let front : List ℕ = real_bytes (take k from) in
      let long : length front ≡ 8 * k = length_real_bytes (take k from) ∙ ap (λ (n : ℕ). 8 * n) (length-take-le k from (omega arith)) in
      let rest : drop (8 * k + 8) (front ++ drop (8 * k) s₀) ≡ drop (8 * k + 8) s₀ =
      sym (drop-drop 8 (8 * k) (front ++ drop (8 * k) s₀)) ∙ ap (drop 8) (drop_at front (drop (8 * k) s₀) (8 * k) long) ∙ drop-drop 8 (8 * k) s₀ in
      let n : 8 * k + 8 ≡ 8 * (k + 1) = omega arith in
      record {
        is =
            stored
            ∙ ap (λ (x : List ℕ). take (8 * k) x ++ (bytes_of b ++ drop (8 * k + 8) x)) c.is
            ∙ ap (λ (x : List ℕ). x ++ (bytes_of b ++ drop (8 * k + 8) (front ++ drop (8 * k) s₀))) (take_at front (drop (8 * k) s₀) (8 * k) long)
            ∙ ap (λ (x : List ℕ). front ++ (bytes_of b ++ x)) rest
            ∙ sym (append_assoc front (bytes_of b) (drop (8 * k + 8) s₀))
            ∙ ap (λ (x : ℕ). (front ++ bytes_of x) ++ drop (8 * k + 8) s₀) e
            ∙ ap (λ (x : List ℕ). x ++ drop (8 * k + 8) s₀) (sym (real_bytes_next from k (omega arith)))
            ∙ ap (λ (x : ℕ). real_bytes (take (k + 1) from) ++ drop x s₀) n;
      }
