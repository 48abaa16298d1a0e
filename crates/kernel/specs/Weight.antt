-- Distance and kernel weight. Definitions, and examples at the end.
use Rattle.std.specs.Prelude.{◌≡◌, Bool, true, false, cond, not, ◌||◌, T, pos, Float, Option, Some, None}
use Rattle.std.proofs.Math.Path.{refl}
use Rattle.std.specs.Float.{fin, binary64}
use Rattle.std.specs.Float.Ieee.{add, sub, mul, div, neg, lt, le, eq, of_bits}
use Rattle.std.specs.Float.Ieee.Scale.{finite}
use Rattle.real.specs.Reals.{zero64, one64}
use Rattle.real.specs.Arithmetic.{rounded}
use Rattle.root.specs.Root.{root}
use Rattle.elementary.specs.Exp.{expv}
use Rattle.kernel.specs.declared.GwrKernel.{GwrKernel}
use Rattle.kernel.specs.declared.GwrKernel.TheVariants.{Gaussian, Bisquare}
use Rattle.kernel.specs.Published.{gaussian_formula, bisquare_formula, exponential_formula, kernel_formula}

-- dx·dx + dy·dy
unfoldable pub squares_of : Float → Float → Float → Float → Float
unfolding add mul sub
squares_of ax ay bx by = let dx = sub binary64 ax bx in let dy = sub binary64 ay by in add binary64 (mul binary64 dx dx) (mul binary64 dy dy)

-- its root
unfoldable pub distance_of : Float → Float → Float → Float → Float
unfolding root squares_of
distance_of ax ay bx by = root (squares_of ax ay bx by)

-- a bandwidth that is not finite, or is at most 0
unfoldable pub unusable : Float → Bool
unfolding le
unusable b = not (finite b) || le b zero64

-- the weight of distance d at bandwidth b: the published formula with each operation rounded once and exp by document 01's steps; under an unusable bandwidth 1 for d = 0, else 0
unfoldable pub weight_of : GwrKernel → Float → Float → Float
unfolding unusable gaussian_formula bisquare_formula exponential_formula expv mul div sub neg lt eq of_bits
weight_of k d b = cond (unusable b) (cond (eq d zero64) one64 zero64) (kernel_formula rounded expv (λ x. x) k d b)

-- the answer of the public weight call: none where d is NaN or negative
unfoldable pub weighed : GwrKernel → Float → Float → Option Float
unfolding weight_of le
weighed k d b = cond (le zero64 d) (Some (weight_of k d b)) None

-- x lies from 0 to 1
pub record FromZeroToOne (x : Float) : Type 0 where
  pub low : T (le zero64 x)
  pub high : T (le x one64)

-- ---- examples

module _ where
  -- Bisquare: distance 1 at bandwidth 2 weighs 0.5625, a distance equal to the bandwidth 0; then bandwidth 0
  weight_examples :
      (weight_of Bisquare (fin false 1 (pos 0)) (fin false 1 (pos 1)) ≡ of_bits binary64 0x3FE2_0000_0000_0000)
      × (weight_of Bisquare (fin false 3 (pos 0)) (fin false 3 (pos 0)) ≡ zero64)
      × (weight_of Gaussian (fin false 0 (pos 0)) (fin false 0 (pos 0)) ≡ one64)
  unfolding weight_of of_bits
  weight_examples = (refl, refl, refl)

  -- the public call refuses -1, and serves -0, as the distance 0 that it is
  call_examples :
      (weighed Gaussian (fin true 1 (pos 0)) (fin false 1 (pos 0)) ≡ None)
      × (weighed Bisquare (fin true 0 (pos 0)) (fin false 1 (pos 0)) ≡ Some one64)
  unfolding weighed of_bits
  call_examples = (refl, refl)
