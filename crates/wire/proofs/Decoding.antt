-- The loop of `decode`: the first k reals, and then what was there.
use mathlib.Core.Path.{◌≡◌, refl, sym, ◌∙◌}
use mathlib.Core.List.{List, [], ◌∷◌, ◌++◌, append_assoc}
use Prim.Native.Nat.{ℕ, zero, suc, ◌+◌, ◌*◌, ◌<◌}
use native.Mathlib.Numerals.{add-one}
use native.Mathlib.Omega.{arith}
use lib.ListN.{length, drop, get_or, set, length-append}
use lib.Seq.{drop-cons, set_at}
use lib.Ieee.{Float, nan}
use Rattle.wire.specs.Wire.{reals, real_of, load_of}

pub length_reals : (s : List ℕ) (n : ℕ) → length (reals s n) ≡ n
unfolding reals
length_reals s zero = refl
length_reals s (suc n) = length-append (reals s n) _ ∙ omega (arith, length_reals s n)

pub record Decoding (s : List ℕ) (into₀ : List Float) (k : ℕ) (into : List Float) : Type 0 where
  pub is : into ≡ reals s k ++ drop k into₀

module _ {s : List ℕ} {into₀ : List Float} where
  pub start : Decoding s into₀ 0 into₀
  unfolding reals
  start = record { is = refl }

  pub next : {k : ℕ} {into : List Float} {x : Float} → Decoding s into₀ k into → k < length into₀ → x ≡ real_of (load_of s (8 * k))
      → Decoding s into₀ (k + 1) (set into k x)
  unfolding reals
  next {k} {into} {x} c room e =
      record {
        is =
            rw (c.is, e, add-one, drop-cons into₀ k nan room)
            (set_at (reals s k) (get_or into₀ k nan) (drop (suc k) into₀) (real_of (load_of s (8 * k))) k (length_reals s k) ∙ sym (append_assoc (reals s k) (real_of (load_of s (8 * k)) ∷ []) (drop (suc k) into₀)));
      }
