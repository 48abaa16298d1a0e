-- Counting loops. Definitions only.
use Rattle.std.specs.Prelude.{ℕ, zero, suc, ◌+◌, ◌-◌}

-- f a, then f (a + 1), .. : n turns, from s
unfoldable pub turns : {S : Type 0} → (ℕ → S → S) → ℕ → ℕ → S → S
turns f a zero s = s
turns f a (suc n) s = f (a + n) (turns f a n s)

-- `for i in a..b { s = f(i, s) }`
unfoldable pub range : {S : Type 0} → (ℕ → S → S) → ℕ → ℕ → S → S
unfolding turns
range f a b s = turns f a (b - a) s
