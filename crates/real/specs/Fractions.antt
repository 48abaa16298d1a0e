-- Fractions of whole numbers, on which nothing is rounded, and what it means that an operation of binary64 is theirs, rounded once to the nearest, ties to the even last bit, as IEEE 754 asks. Definitions only.
use Rattle.std.specs.Prelude.{◌≡◌, ℕ, ◌+◌, ◌-◌, ◌*◌, ◌<◌, Bool, false, cond, not, ◌&&◌, T, nat_lt, Float}
use Rattle.std.specs.Bool.{beq}
use Rattle.std.specs.Float.{nan, inf, fin, binary64}
use Rattle.std.specs.Float.Ieee.{up, down, round, below, unlike}
use Rattle.std.specs.Float.Ieee.Scale.{finite}
use Rattle.std.specs.Float.Ieee.Positive.{num}

-- a / c, negative where the sign is set
pub data Fraction : Type 0 where
  fraction : Bool → ℕ → ℕ → Fraction

-- -(a/c)
abbrev pub fraction_opposite : Fraction → Fraction
fraction_opposite (fraction s a c) = fraction (not s) a c

-- a/c + b/c of these signs; a sum of nothing has a sign only where both have
abbrev pub fraction_joined : Bool → ℕ → Bool → ℕ → ℕ → Fraction
fraction_joined s a t b c = cond (beq s t) (fraction s (a + b) c) (cond (nat_lt a b) (fraction t (b - a) c) (fraction (s && nat_lt b a) (a - b) c))

-- a/c + b/d, over c·d
abbrev pub fraction_plus : Fraction → Fraction → Fraction
fraction_plus (fraction s a c) (fraction t b d) = fraction_joined s (a * d) t (b * c) (c * d)

-- a/c - b/d, over c·d
abbrev pub fraction_minus : Fraction → Fraction → Fraction
fraction_minus (fraction s a c) (fraction t b d) = fraction_joined s (a * d) (not t) (b * c) (c * d)

-- (a·b)/(c·d)
abbrev pub fraction_times : Fraction → Fraction → Fraction
fraction_times (fraction s a c) (fraction t b d) = fraction (unlike s t) (a * b) (c * d)

-- (a·d)/(b·c)
abbrev pub fraction_over : Fraction → Fraction → Fraction
fraction_over (fraction s a c) (fraction t b d) = fraction (unlike s t) (a * d) (b * c)

-- a/c < b/d, by a·d and b·c
abbrev pub fraction_less : Fraction → Fraction → Bool
fraction_less (fraction s a c) (fraction t b d) = below s (a * d) t (b * c)

-- a finite number as a fraction
abbrev pub fraction_of : Float → Fraction
fraction_of nan = fraction false 0 1
fraction_of (inf s) = fraction false 0 1
fraction_of (fin s m e) = fraction s (m * up e) (down e)

-- the binary64 nearest to a fraction, ties to the even last bit
abbrev pub nearest64 : Fraction → Float
nearest64 (fraction s a c) = round binary64 s a c

-- of finite numbers f is the exact g, rounded once
abbrev pub Once : (Float → Float → Float) → (Fraction → Fraction → Fraction) → Type 0
Once f g = (x y : Float) → T (finite x) → T (finite y) → f x y ≡ nearest64 (g (fraction_of x) (fraction_of y))

-- the same by a number other than 0
abbrev pub OnceBy : (Float → Float → Float) → (Fraction → Fraction → Fraction) → Type 0
OnceBy f g = (x y : Float) → T (finite x) → T (finite y) → 0 < num y → f x y ≡ nearest64 (g (fraction_of x) (fraction_of y))
