-- The arithmetics that the published formulas are read in: that of binary64, which rounds each operation once, and the exact one of fractions. Definitions only.
use Rattle.std.specs.Prelude.{Bool, false, Float}
use Rattle.std.specs.Float.{binary64}
use Rattle.std.specs.Float.Ieee.{add, sub, mul, div, neg, lt}
use Rattle.real.specs.Reals.{zero64, half64, one64, two64}
use Rattle.real.specs.Fractions.{Fraction, fraction, fraction_opposite, fraction_plus, fraction_minus, fraction_times, fraction_over, fraction_less}

-- what a formula asks of an arithmetic on R
pub record Arithmetic (R : Type 0) : Type 0 where
  pub nought : R
  pub half : R
  pub one : R
  pub two : R
  pub opposite : R → R
  pub plus : R → R → R
  pub minus : R → R → R
  pub times : R → R → R
  pub over : R → R → R
  pub less : R → R → Bool

-- binary64: each operation rounded once
abbrev pub rounded : Arithmetic Float
rounded =
    record {
      nought = zero64;
      half = half64;
      one = one64;
      two = two64;
      opposite = neg;
      plus = add binary64;
      minus = sub binary64;
      times = mul binary64;
      over = div binary64;
      less = lt;
    }

-- fractions: nothing is rounded
abbrev pub exact : Arithmetic Fraction
exact =
    record {
      nought = fraction false 0 1;
      half = fraction false 1 2;
      one = fraction false 1 1;
      two = fraction false 2 1;
      opposite = fraction_opposite;
      plus = fraction_plus;
      minus = fraction_minus;
      times = fraction_times;
      over = fraction_over;
      less = fraction_less;
    }
