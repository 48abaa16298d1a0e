-- A step that is made until the work is over or an allowance is spent. Nothing here knows what a step is. Definitions only.
use Rattle.std.specs.Prelude.{ℕ, zero, suc, Bool, cond}

module _ {S : Type 0} (step : S → S) where
  -- so many steps
  unfoldable pub steps : ℕ → S → S
  steps zero s = s
  steps (suc k) s = steps k (step s)

  -- steps until the allowance is spent or the work is over, and how many were made
  unfoldable pub run : (S → Bool) → ℕ → S → S × ℕ
  run over zero s = (s, 0)
  run over (suc a) s =
      let r = run over a (step s) in
      cond (over s) (s, 0) (r.0, suc r.1)
