-- Three fits given with whole numbers, whose coefficients are exact and solve the published normal equations. Definitions only.
use Rattle.std.specs.Prelude.{◌≡◌, false, [], ◌∷◌, ℕ, negsuc, replicate, Float}
use Rattle.std.specs.Float.{fin, binary64}
use Rattle.std.specs.Float.Ieee.{of_int}
use Rattle.real.specs.Reals.{zero64}
use Rattle.setup.specs.declared.Setup.{Setup}
use Rattle.setup.specs.Options.{default_options}
use Rattle.setup.specs.Data.{Data, data_of}
use Rattle.real.specs.Matrix.{Row}
use Rattle.estimate.specs.declared.Coefficients.{Coefficients}
use Rattle.estimate.specs.NormalEquations.{ExactFit, Solves}
use Rattle.examples.specs.Examples.{whole_number}

-- n observations, p predictors each in x, responses y, weights w and their sum, and the coefficients
pub record Family : Type 0 where
  pub x : Row
  pub y : Row
  pub w : Row
  pub sum : Float
  pub n : ℕ
  pub p : ℕ
  pub beta : Row

abbrev pub family_setup : Family → Setup
family_setup f = record { options = default_options; n = f.n; p = f.p }

-- the fit sees no place
abbrev pub family_data : Family → Data
family_data f = data_of [] f.x f.y

-- the coefficients are found, exact, and solve the published equations
pub record ExactlySolved (f : Family) : Type 0 where
  pub coefficients : Coefficients
  pub found : coefficients.beta ≡ f.beta
  pub exact : ExactFit (family_setup f) (family_data f) f.w f.sum coefficients
  pub solves : Solves (family_setup f) (family_data f) f.w f.beta

abbrev pub minus_one : Float
minus_one = of_int binary64 (negsuc 0)

-- responses 2 and 6 of weights 1 and 3: their mean 5
abbrev pub mean_of_two : Family
mean_of_two =
    record {
      x = [];
      y = whole_number 2 ∷ (whole_number 6 ∷ []);
      w = whole_number 1 ∷ (whole_number 3 ∷ []);
      sum = whole_number 4;
      n = 2;
      p = 0;
      beta = whole_number 5 ∷ replicate 7 zero64;
    }

-- 2, 3 and 8 at 0, 1 and 2 of weights 1, 2 and 1: the line 1 + 3 x, which meets none of them
abbrev pub line_of_three : Family
line_of_three =
    record {
      x = whole_number 0 ∷ (whole_number 1 ∷ (whole_number 2 ∷ []));
      y = whole_number 2 ∷ (whole_number 3 ∷ (whole_number 8 ∷ []));
      w = whole_number 1 ∷ (whole_number 2 ∷ (whole_number 1 ∷ []));
      sum = whole_number 4;
      n = 3;
      p = 1;
      beta = whole_number 1 ∷ (whole_number 3 ∷ replicate 6 zero64);
    }

-- 1, 2, 4 and 9 at the corners of a square: the plane 4 + 5/2 x + 3/2 y
abbrev pub plane_of_four : Family
plane_of_four =
    record {
      x = minus_one ∷ (minus_one ∷ (minus_one ∷ (whole_number 1 ∷ (whole_number 1 ∷ (minus_one ∷ (whole_number 1 ∷ (whole_number 1 ∷ [])))))));
      y = whole_number 1 ∷ (whole_number 2 ∷ (whole_number 4 ∷ (whole_number 9 ∷ [])));
      w = replicate 4 (whole_number 1);
      sum = whole_number 4;
      n = 4;
      p = 2;
      beta = whole_number 4 ∷ (fin false 5 (negsuc 0) ∷ (fin false 3 (negsuc 0) ∷ replicate 5 zero64));
    }
