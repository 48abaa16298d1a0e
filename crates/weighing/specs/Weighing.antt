-- The weight call: its list of tests, what it answers, and every byte that it leaves. Definitions only.
use Rattle.std.specs.Prelude.{ℕ, Bool, cond, not, List, [], ◌∷◌, eqb, ltb, length, Float, Option, Some, None}
use Rattle.std.specs.Float.Ieee.{le}
use Rattle.real.specs.Reals.{zero64}
use Rattle.wire.specs.Wire.{bits_of, real_of, bytes_of, placed}
use Rattle.refusal.specs.Numbers.{refusal_number}
use Rattle.refusal.specs.declared.Refusal.{Refusal}
use Rattle.refusal.specs.declared.Refusal.TheVariants.{CoordinateNotFinite, OutputTooShort, UnknownNumber}
use Rattle.checks.specs.Judge.{judge, ruled}
use Rattle.kernel.specs.Weight.{weight_of}
use Rattle.request.specs.Options.{kernel_of, is_unknown_kernel, named_kernel}

-- a distance that is NaN or negative
abbrev pub distance_tests : Float → List (Bool × Refusal)
distance_tests d = (not (le zero64 d), CoordinateNotFinite) ∷ []

-- 01's order for the weight call: 18, 13 fewer than 8 bytes, 9
unfoldable pub weight_tests : ℕ → ℕ → ℕ → List (Bool × Refusal)
weight_tests kernel d out = (is_unknown_kernel (kernel_of kernel), UnknownNumber) ∷ (ltb out 8, OutputTooShort) ∷ distance_tests (real_of d)

-- 01: the weight call gives 9 and the weight 0 for a refused d; 18 and 13 write nothing
abbrev pub refused_weight : Refusal → List ℕ → ℕ × List ℕ
refused_weight r out = (refusal_number r, cond (eqb (refusal_number r) 9) (placed out 0 (bytes_of 0)) out)

-- a weight in the first 8 bytes
abbrev pub given_weight : Float → List ℕ → ℕ × List ℕ
given_weight w out = (0, placed out 0 (bytes_of (bits_of w)))

-- the weight of the distance of bits d at the bandwidth of bits b: the number answered, and the bytes after the call
unfoldable pub weight_bytes : ℕ → ℕ → ℕ → List ℕ → ℕ × List ℕ
weight_bytes kernel d b out =
    ruled (judge (weight_tests kernel d (length out)))
    (λ (r : Refusal). refused_weight r out)
    (given_weight (weight_of (named_kernel (kernel_of kernel)) (real_of d) (real_of b)) out)

-- ---- what the code's parts give

-- what `weigh_distance` said, in the first 8 bytes
abbrev pub placed_weight : Option Float → List ℕ → ℕ × List ℕ
placed_weight (Some w) out = given_weight w out
placed_weight None out = refused_weight CoordinateNotFinite out

-- the same, or 13
unfoldable pub weighed_bytes : Option Float → List ℕ → ℕ × List ℕ
weighed_bytes w out = cond (ltb (length out) 8) (refused_weight OutputTooShort out) (placed_weight w out)
