-- A walk's buffer: its sums in front, and zeros behind them. Assumes nothing.
use Rattle.std.proofs.Common.{◌≡◌, ℕ, ◌+◌, ◌-◌, ◌≤◌, ◌<◌, List, ◌++◌, length, drop, set, replicate, sym, ap, ◌∙◌, arith, length-append, length-drop, length-set}
use Rattle.std.proofs.lemmas.List.{drop-set-lt, drop-drop, drop-replicate, length-replicate}
use Rattle.std.proofs.Math.Seq.{drop-append_seam}
use lib.Ieee.{Float}
use Rattle.real.specs.Reals.{zero64}

-- the invariant of a walk
abbrev Held : ℕ → List Float → Type 0
Held met l = (met ≤ 512) × (length l ≡ 512) × (drop met l ≡ replicate (512 - met) zero64)

-- one sum more
pub held_more : (l : List Float) (met : ℕ) (x : Float) → met < 512 → Held met l → Held (met + 1) (set l met x)
held_more l met x h e = (
  omega arith,
  length-set l met x ∙ e.1,
  drop-set-lt (met + 1) l met x (omega arith) ∙ sym (drop-drop 1 met l) ∙ ap (drop 1) e.2 ∙ drop-replicate 1 (512 - met) zero64 ∙ ap (λ (n : ℕ). replicate n zero64) (let k : 512 - met - 1 ≡ 512 - (met + 1) = omega arith in k),
)

-- sums laid over zeros
pub laid : (s : List Float) → length s ≤ 512 → Held (length s) (s ++ drop (length s) (replicate 512 zero64))
laid s h = (
  h,
  omega (arith, length-append s (drop (length s) (replicate 512 zero64)), length-drop (length s) (replicate 512 zero64), length-replicate 512 zero64),
  drop-append_seam s (drop (length s) (replicate 512 zero64)) ∙ drop-replicate (length s) 512 zero64,
)
