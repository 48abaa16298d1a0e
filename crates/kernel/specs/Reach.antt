-- Sums of squares from which on nothing weighs, so that no root is taken there: what `GwrKernel::reach` gives, and what `weight_within` asks of it. Definitions only.
use Rattle.std.specs.Prelude.{◌≡◌, cond, T, Float, Option, Some, None}
use Rattle.std.specs.Float.{binary64}
use Rattle.std.specs.Float.Ieee.{mul, le, fits}
use Rattle.real.specs.Reals.{zero64}
use Rattle.root.specs.Root.{root}
use Rattle.kernel.specs.declared.GwrKernel.{GwrKernel}
use Rattle.kernel.specs.declared.GwrKernel.TheVariants.{Gaussian, Bisquare, Exponential}
use Rattle.kernel.specs.Weight.{unusable, weight_of}

-- the square of a bandwidth in use, if its root reaches the bandwidth
unfoldable pub bisquare_reach : Float → Option Float
unfolding unusable root mul le
bisquare_reach b = let c = mul binary64 b b in cond (unusable b) None (cond (le b (root c)) (Some c) None)

-- the reach of each kernel at bandwidth b: none where every distance may weigh
abbrev pub reach_of : GwrKernel → Float → Option Float
reach_of Gaussian b = None
reach_of Bisquare b = bisquare_reach b
reach_of Exponential b = None

-- the root of no number from c on weighs anything
pub record Reach (k : GwrKernel) (b c : Float) : Type 0 where
  pub past : (s : Float) → T (fits binary64 s) → T (le c s) → weight_of k (root s) b ≡ zero64
