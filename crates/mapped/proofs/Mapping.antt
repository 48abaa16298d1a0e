-- A loop that puts one number in another's place: the first k stand in the relation to what was there, and then what was there.
use mathlib.Core.Path.{◌≡◌, refl, sym, ap, subst, ◌∙◌}
use mathlib.Core.List.{List, [], ◌∷◌, ◌++◌, append-nil}
use Prim.Native.Nat.{ℕ, suc, ◌+◌, ◌≤◌, ◌<◌}
use native.Mathlib.Numerals.{add-one}
use native.Mathlib.Omega.{arith}
use lib.ListN.{length, take, drop, get_or, set}
use lib.Seq.{take-length, drop-length, length-take-le, take-suc, drop-cons, set_at, get_or_at, append_snoc}
use lib.Ieee.{Float, nan}
use Rattle.std.specs.List.{AllZip}
use Rattle.std.proofs.lemmas.List.Elements.{AllZip-push, length_all_zip}

pub record Mapping (R : Float → Float → Type 0) (v₀ : List Float) (k : ℕ) (v : List Float) : Type 0 where
  pub front : List Float
  pub each : AllZip R (take k v₀) front
  pub is : v ≡ front ++ drop k v₀

module _ {R : Float → Float → Type 0} {v₀ : List Float} where
  pub start : Mapping R v₀ 0 v₀
  start = record { front = []; each = search; is = refl }

  pub next : {k : ℕ} {v : List Float} {x : Float} → Mapping R v₀ k v → k < length v₀ → R (get_or v k nan) x → Mapping R v₀ (k + 1) (set v k x)
  next {k} {v} {x} m room r =
      let long : length m.front ≡ k = sym (length_all_zip R (take k v₀) m.front m.each) ∙ length-take-le k v₀ (omega arith) in
      let there : get_or v k nan ≡ get_or v₀ k nan =
      rw (m.is, drop-cons v₀ k nan room) (get_or_at m.front (get_or v₀ k nan) (drop (suc k) v₀) nan k long)
      in
      record {
        front = m.front ++ (x ∷ []);
        each = rw (add-one, take-suc v₀ k nan room) (AllZip-push R (take k v₀) m.front (get_or v₀ k nan) x m.each (subst (λ (y : Float). R y x) there r));
        is =
            rw (m.is, add-one, drop-cons v₀ k nan room)
            (set_at m.front (get_or v₀ k nan) (drop (suc k) v₀) x k long ∙ sym (append_snoc m.front x (drop (suc k) v₀)));
      }

  pub done : {k : ℕ} {v : List Float} → Mapping R v₀ k v → k ≤ length v₀ → length v₀ ≤ k → AllZip R v₀ v
  done {k} {v} m most h =
      let e : k ≡ length v₀ = omega arith in
      let whole : v ≡ m.front = rw (m.is, e, drop-length v₀) (append-nil m.front) in
      subst (λ (l : List Float). AllZip R v₀ l) (sym whole) (subst (λ (l : List Float). AllZip R l m.front) (ap (λ (n : ℕ). take n v₀) e ∙ take-length v₀) m.each)
