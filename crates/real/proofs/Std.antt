-- The library's words for a number's tests, its size and infinity, in those of this repository.
use Rattle.std.proofs.Common.{◌≡◌, ℕ, ◌*◌, Bool, true, false, not, refl}
use Rattle.std.specs.Float.{float_is_finite, float_with_sign}
use borrow.Author.Tests.{eq-eqb}
use lib.Ieee.{Float, nan, inf, fin, binary64, of_bits, up, down, eq, level, is_nan}
use lib.Ieee.Scale.{finite}
use Rattle.real.specs.Reals.{magnitude, inf64}

-- `x.is_finite()`
pub finite_same : (x : Float) → float_is_finite x ≡ finite x
unfolding float_is_finite
finite_same nan = refl
finite_same (inf s) = refl
finite_same (fin s m e) = refl

-- `x.abs()`
pub size_same : (x : Float) → float_with_sign false x ≡ magnitude x
unfolding float_with_sign magnitude
size_same nan = refl
size_same (inf s) = refl
size_same (fin s m e) = refl

-- `f64::INFINITY`
pub infinity_same : of_bits binary64 0x7FF0_0000_0000_0000 ≡ inf64
unfolding of_bits
infinity_same = refl

-- `x.is_nan()`, by a comparison
pub number_same : (x : Float) → eq x x ≡ not (is_nan x)
unfolding eq is_nan
number_same nan = refl
number_same (inf true) = refl
number_same (inf false) = refl
number_same (fin s m e) = go s (m * up e * down e)
  where
    go : (s : Bool) (a : ℕ) → level s a s a ≡ true
    go true a = rw (eq-eqb a a refl)
    go false a = rw (eq-eqb a a refl)
