-- The bandwidth at a point of a search can be used.
use native.Mathlib.Omega.{arith}
use lib.Ieee.{Float}
use Rattle.real.specs.Reals.{round_into}
use Rattle.setup.specs.declared.GwrBandwidth.{GwrBandwidth}
use Rattle.setup.specs.declared.GwrBandwidth.TheVariants.{Fixed, AdaptiveKnn}
use Rattle.setup.specs.declared.Setup.{Setup}
use Rattle.setup.specs.Bandwidth.{Usable}
use Rattle.setup.specs.Shape.{Sized}
use Rattle.bounds.specs.Bounds.{least_count, greatest_count, point_of, bandwidth_at}

module _ (u : Setup) (s : Sized u) where
  pub bandwidth_usable : (point : Float) → Usable (bandwidth_at u point)
  unfolding bandwidth_at round_into
  bandwidth_usable point = go u.options.bandwidth
    where
      go : (w : GwrBandwidth) → Usable (point_of w point (least_count u.p) (greatest_count u.n u.p))
      go (Fixed b) = tt
      go (AdaptiveKnn k) = record { some = omega (arith, s.few, s.narrow); few = omega (arith, s.few, s.narrow) }
