-- Bytes laid over the front of a list: those of rows, those of a summary, and what a call's zeros are.
use mathlib.Core.Path.{◌≡◌, refl, sym, ap, ◌∙◌}
use mathlib.Core.List.{List, ◌∷◌, ◌++◌, append_assoc}
use Prim.Native.Nat.{ℕ, zero, suc, ◌+◌, ◌*◌, ◌≤◌}
use native.Mathlib.Omega.{arith}
use lib.ListN.{length, take, drop, replicate, length-append, length-replicate}
use lib.Seq.{length-take-le}
use lib.Ieee.{Float}
use Rattle.wire.specs.Wire.{bits_of, bytes_of, real_bytes, reals, placed}
use Rattle.wire.proofs.Numbers.{length_bytes_of}
use Rattle.wire.proofs.Placed.{placed_more}
use Rattle.wire.proofs.Encoding.{length_real_bytes}
use Rattle.criterion.specs.declared.Summary.{Summary}
use Rattle.calls.specs.Calls.{summary_bytes}

-- one number
at_placed : (s : List ℕ) (at v : ℕ) → take at s ++ (bytes_of v ++ drop (at + 8) s) ≡ placed s at (bytes_of v)
unfolding placed
at_placed s at v = sym (ap (λ (n : ℕ). take at s ++ (bytes_of v ++ drop (at + n) s)) (length_bytes_of v))

-- rows of reals
pub rows_placed : (rows : List Float) (out : List ℕ) → real_bytes rows ++ drop (8 * length rows) out ≡ placed out 0 (real_bytes rows)
unfolding placed
rows_placed rows out =
    let n : 0 + length (real_bytes rows) ≡ 8 * length rows = omega (arith, length_real_bytes rows) in
    ap (λ (k : ℕ). real_bytes rows ++ drop k out) (sym n)

-- three numbers after each other are a summary
pub summary_placed : (s₀ s₁ s₂ s₃ : List ℕ) (a b : ℕ) (v : Summary) → 24 ≤ length s₀ → a ≡ bits_of v.bandwidth → b ≡ bits_of v.aicc
    → s₁ ≡ take 0 s₀ ++ (bytes_of a ++ drop (0 + 8) s₀) → s₂ ≡ take 8 s₁ ++ (bytes_of b ++ drop (8 + 8) s₁)
    → s₃ ≡ take 16 s₂ ++ (bytes_of v.solves ++ drop (16 + 8) s₂) → s₃ ≡ placed s₀ 0 (summary_bytes v)
unfolding summary_bytes
summary_placed s₀ s₁ s₂ s₃ a b v h ha hb e₁ e₂ e₃ =
    let one : List ℕ = bytes_of a in
    let two : List ℕ = bytes_of b in
    let three : List ℕ = bytes_of v.solves in
    let n₁ : length one ≡ 8 = length_bytes_of a in
    let n₂ : length (one ++ two) ≡ 16 = length-append one two ∙ omega (arith, n₁, length_bytes_of b) in
    let m₁ : 8 ≡ 0 + length one = omega (arith, n₁) in
    let m₂ : 16 ≡ 0 + length (one ++ two) = omega (arith, n₂) in
    let p₁ : s₁ ≡ placed s₀ 0 one = e₁ ∙ at_placed s₀ 0 a in
    let p₂ : s₂ ≡ placed s₀ 0 (one ++ two) =
    e₂ ∙ at_placed s₁ 8 b
    ∙ ap (λ (z : List ℕ). placed z 8 two) p₁
    ∙ ap (λ (k : ℕ). placed (placed s₀ 0 one) k two) m₁
    ∙ placed_more s₀ 0 one two (omega (arith, n₁, length_bytes_of b)) in
    let p₃ : s₃ ≡ placed s₀ 0 ((one ++ two) ++ three) =
    e₃ ∙ at_placed s₂ 16 v.solves
    ∙ ap (λ (z : List ℕ). placed z 16 three) p₂
    ∙ ap (λ (k : ℕ). placed (placed s₀ 0 (one ++ two)) k three) m₂
    ∙ placed_more s₀ 0 (one ++ two) three (omega (arith, n₂, length_bytes_of v.solves)) in
    p₃ ∙ ap (placed s₀ 0) (append_assoc one two three)
    ∙ ap (λ (k : ℕ). placed s₀ 0 (bytes_of k ++ (two ++ three))) ha
    ∙ ap (λ (k : ℕ). placed s₀ 0 (bytes_of (bits_of v.bandwidth) ++ (bytes_of k ++ three))) hb

-- some of equal elements
pub take_replicate : {A : Type 0} (m n : ℕ) (a : A) → m ≤ n → take m (replicate n a) ≡ replicate m a
take_replicate zero n a h = refl
take_replicate (suc m) zero a h = absurd (omega (arith, h))
take_replicate (suc m) (suc n) a h = ap (λ (l : List _). a ∷ l) (take_replicate m n a (omega (arith, h)))

-- a part of a list is as long as it says
pub part_long : {A : Type 0} (m k : ℕ) (l : List A) → length l ≡ k → m ≤ k → m ≡ length (take m l)
part_long m k l e h = sym (length-take-le m l (omega (arith, e, h)))

pub zeros_long : {A : Type 0} (m n : ℕ) (a : A) → m ≤ n → m ≡ length (take m (replicate n a))
zeros_long m n a h = part_long m n (replicate n a) (length-replicate n a) h

-- the numbers that were decoded into a part of zeros
pub decoded : (s : List ℕ) (n m : ℕ) (z : Float) (into : List Float) → n ≤ m → into ≡ reals s (length (take n (replicate m z))) → into ≡ reals s n
decoded s n m z into h e = e ∙ ap (reals s) (sym (zeros_long n m z h))
