-- Reals and their bits: one gives the other back.
use mathlib.Core.Path.{◌≡◌, refl, sym, ap, ◌∙◌, subst}
use mathlib.Core.Bool.{Bool, true, false, not}
use Prim.Native.Nat.{ℕ, ◌*◌, ◌^◌, ◌<◌}
use lib.Dec.{T}
use borrow.Author.Tests.{eq-eqb}
use lib.Ieee.{Float, nan, inf, fin, binary64, eq, is_nan, fits, of_bits, to_bits, nan_bits, level, up, down}
use lib.Ieee.Bits.{of_bits-to_bits, to_bits-of_bits, nan_bits_is}
use Rattle.wire.specs.Wire.{bits_of, real_of}

-- the bits of NaN are those that to_bits has
pub bits_of_is : (x : Float) → bits_of x ≡ to_bits binary64 x
unfolding bits_of is_nan to_bits
bits_of_is nan = refl
bits_of_is (inf s) = refl
bits_of_is (fin s m e) = refl

pub bits_real : (x : Float) → T (fits binary64 x) → real_of (bits_of x) ≡ x
unfolding real_of
bits_real x h = ap (of_bits binary64) (bits_of_is x) ∙ of_bits-to_bits binary64 x h

pub real_bits : (b : ℕ) → b < 2 ^ 64 → T (not (nan_bits binary64 b)) → bits_of (real_of b) ≡ b
unfolding real_of
real_bits b h n = bits_of_is (of_bits binary64 b) ∙ to_bits-of_bits binary64 b h (subst (λ (t : Bool). T (not t)) (nan_bits_is binary64 b) n)

same_level : (s : Bool) (a : ℕ) → level s a s a ≡ true
same_level true a = rw (eq-eqb a a refl)
same_level false a = rw (eq-eqb a a refl)

-- what does not equal itself is NaN
pub is_nan_lem : (y : Float) → eq y y ≡ false → bits_of y ≡ 0x7FF8_0000_0000_0000
unfolding eq bits_of is_nan
is_nan_lem nan e = refl
is_nan_lem (inf true) e = absurd (subst T e tt)
is_nan_lem (inf false) e = absurd (subst T e tt)
is_nan_lem (fin s m e') e = absurd (subst T (sym (same_level s (m * up e' * down e')) ∙ e) tt)
