-- The sizes of a job, and the lengths that its data have then. Definitions only.
use Rattle.std.specs.Prelude.{ℕ, ◌+◌, ◌*◌, ◌/◌, ◌≤◌, ◌≡◌, length}
use Rattle.setup.specs.declared.GwrOptions.{GwrOptions}
use Rattle.setup.specs.declared.Setup.{Setup}
use Rattle.setup.specs.Data.{Data, trust_count}

-- 01: n is half the number of coordinates
abbrev pub setup_of : Data → ℕ → GwrOptions → Setup
setup_of d p o = record { options = o; n = length d.coords / 2; p = p }

-- 01: 1 ≤ n ≤ 512, p ≤ 7, n ≥ p + 1; the first follows from the last
pub record Sized (u : Setup) : Type 0 where
  pub few : u.n ≤ 512
  pub narrow : u.p ≤ 7
  pub enough : u.p + 1 ≤ u.n

-- the columns of n observations with p predictors
pub record Shaped (u : Setup) (d : Data) : Type 0 where
  pub sized : Sized u
  pub places : length d.coords ≡ 2 * u.n
  pub rows : length d.predictors ≡ u.n * u.p
  pub answers : length d.responses ≡ u.n
  pub trusted : trust_count d ≡ u.n
