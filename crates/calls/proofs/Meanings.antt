-- What the fit call's own test asks, in plain mathematics: 13 of bytes.
use mathlib.Core.Logic.{◌⊎◌}
use Prim.Native.Nat.{ℕ, ◌+◌, ◌*◌, ◌<◌}
use Rattle.checks.specs.Judge.{Means}
use Rattle.checks.proofs.Means.{or_means, below_means}
use Rattle.calls.specs.Calls.{lent_too_short}

pub lent_too_short_means : (n p out summary : ℕ) → Means (lent_too_short n p out summary) ((out < 8 * (n * (p + 4))) ⊎ (summary < 24))
lent_too_short_means n p out summary = or_means _ _ (below_means out (8 * (n * (p + 4)))) (below_means summary 24)
