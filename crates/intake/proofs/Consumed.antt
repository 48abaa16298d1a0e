-- What several reads consumed, where the reader's bytes are known.
use mathlib.Core.Path.{◌≡◌, sym, ap, ◌∙◌}
use mathlib.Core.List.{List, ◌++◌, append_assoc}
use Prim.Native.Nat.{ℕ, ◌+◌, ◌≤◌}
use lib.ListN.{length, take}
use lib.Seq.{length-take-le, take-append-le, take-append-add}
use Rattle.std.specs.Prelude.{Option, Some, None}
use Rattle.std.specs.Io.KnownBytes.{Consumes}

-- one read more
pub more : (x y z : Option (List ℕ)) (a b c : List ℕ) → Consumes x y a → Consumes y z b → c ≡ a ++ b → Consumes x z c
more None y z a b c h k e = tt
more (Some xs) None z a b c h k e = absurd h
more (Some xs) (Some ys) None a b c h k e = absurd k
more (Some xs) (Some ys) (Some zs) a b c h k e = h ∙ ap (λ (l : List ℕ). a ++ l) k ∙ sym (append_assoc a b zs) ∙ ap (λ (l : List ℕ). l ++ zs) (sym e)

-- the front of a part behind which more was read
pub front_more : (k n : ℕ) (l read rest : List ℕ) → k ≤ length l → n ≤ length read → take (k + n) (take k l ++ (read ++ rest)) ≡ take k l ++ take n read
front_more k n l read rest h m =
    ap (λ (i : ℕ). take (i + n) (take k l ++ (read ++ rest))) (sym (length-take-le k l h))
    ∙ take-append-add (take k l) (read ++ rest) n
    ∙ ap (λ (x : List ℕ). take k l ++ x) (take-append-le n read rest m)
