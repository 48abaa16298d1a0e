-- Of how many places below a number a test holds, by turns; the more it holds of, the more there are. Assumes nothing.
use mathlib.Core.Bool.{Bool, true, false, cond}
use Prim.Native.Nat.{ℕ, zero, suc, ◌+◌, ◌-◌, ◌≤◌, ◌<◌}
use native.Mathlib.Omega.{arith}
use lib.Dec.{T}
use Rattle.real.specs.Fold.{turns, range}

-- one more where the test holds of j
unfoldable pub tally_step : (ℕ → Bool) → ℕ → ℕ → ℕ
tally_step p j c = cond (p j) (c + 1) c

-- of how many places below n the test holds
unfoldable pub tally : (ℕ → Bool) → ℕ → ℕ
unfolding range tally_step
tally p n = range (tally_step p) 0 n 0

module _ (p q : ℕ → Bool) where
  turns_mono : (n m : ℕ) → n ≤ m → ((j : ℕ) → j < m → T (p j) → T (q j)) → turns (tally_step p) 0 n 0 ≤ turns (tally_step q) 0 n 0
  unfolding turns tally_step
  turns_mono zero m k h = omega arith
  turns_mono (suc n) m k h = go (p (0 + n)) (q (0 + n)) (h (0 + n) (omega arith)) (turns_mono n m (omega arith) h)
    where
      go : (b c : Bool) → (T b → T c) → turns (tally_step p) 0 n 0 ≤ turns (tally_step q) 0 n 0 → cond b (turns (tally_step p) 0 n 0 + 1) (turns (tally_step p) 0 n 0) ≤ cond c (turns (tally_step q) 0 n 0 + 1) (turns (tally_step q) 0 n 0)
      go true true f r = omega arith
      go true false f r = absurd (f tt)
      go false true f r = omega arith
      go false false f r = r

  pub tally_mono : (n : ℕ) → ((j : ℕ) → j < n → T (p j) → T (q j)) → tally p n ≤ tally q n
  unfolding tally range
  tally_mono n h = turns_mono (n - 0) n (omega arith) h
