-- A bandwidth in use, and the number that stands for it. Definitions only.
use Rattle.std.specs.Prelude.{ℕ, ◌≤◌, Float}
use Rattle.real.specs.Reals.{from_count}
use Rattle.setup.specs.declared.GwrBandwidth.{GwrBandwidth}
use Rattle.setup.specs.declared.GwrBandwidth.TheVariants.{Fixed, AdaptiveKnn}

-- a count of neighbours from 1 to 512
pub record Counted (k : ℕ) : Type 0 where
  pub some : 1 ≤ k
  pub few : k ≤ 512

-- what a bandwidth in use is
abbrev pub Usable : GwrBandwidth → Type 0
Usable (Fixed b) = Unit
Usable (AdaptiveKnn k) = Counted k

-- the number that a summary reports: the distance, or the count as a real
abbrev pub report_value : GwrBandwidth → Float
report_value (Fixed b) = b
report_value (AdaptiveKnn k) = from_count k
