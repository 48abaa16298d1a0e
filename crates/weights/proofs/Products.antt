-- The product of a weight and a trust lies from 0 to 1.
use mathlib.Core.Path.{◌≡◌, refl, sym, ap, ◌∙◌, subst}
use mathlib.Core.Bool.{Bool, true, false}
use lib.Dec.{T}
use lib.Ieee.{Float, binary64, mul, neg, le, unlike, of_bits}
use lib.Ieee.Scale.{finite}
use Rattle.real.specs.Reals.{magnitude}
use Rattle.real.proofs.Closed.{nought, one}
use Rattle.real.proofs.SignedOrder.{sgn, sgn_natural, le_tr, in_fin, mag_of, mag_nat, mag_in, mag_finite, mul_mag, mul_opened, mul_commute, mul_smono, mul_nmono, zero_times, nat_above, round_sgn}
use Rattle.kernel.specs.Weight.{FromZeroToOne}

minus_one : T (le (neg one) nought)
unfolding le neg
minus_one = tt

one_square : mul binary64 one one ≡ one
unfolding mul
one_square = refl

module _ (x y : Float) (x0 : T (le nought x)) (x1 : T (le x one)) (y0 : T (le nought y)) (y1 : T (le y one)) where
  fx : T (finite x)
  fx = in_fin nought x one tt tt x0 x1

  fy : T (finite y)
  fy = in_fin nought y one tt tt y0 y1

  -- the size of the product is that of the sizes
  size : T (le (magnitude (mul binary64 x y)) one)
  size =
      subst (λ (z : Float). T (le (magnitude (mul binary64 x y)) z)) one_square
      (subst (λ (z : Float). T (le z (mul binary64 one one))) (sym (mul_mag binary64 x y fx fy))
      (mul_nmono binary64 (magnitude x) one (magnitude y) one (mag_nat x fx) tt (mag_nat y fy) tt
      (mag_of x one fx tt (le_tr (neg one) nought x minus_one x0) x1) (mag_of y one fy tt (le_tr (neg one) nought y minus_one y0) y1)))

  whole : T (finite (mul binary64 x y))
  whole = mag_finite (mul binary64 x y) one tt size

  high : T (le (mul binary64 x y) one)
  high = (mag_in (mul binary64 x y) one whole tt size).1

  -- one factor has its sign clear, or neither has and the product has it clear
  low : T (le nought (mul binary64 x y))
  low = by (sgn x) (sgn y) refl refl
    where
      by : (s t : Bool) → sgn x ≡ s → sgn y ≡ t → T (le nought (mul binary64 x y))
      by s false p q =
          let ny = sgn_natural y fy q in
          subst (λ (z : Float). T (le z (mul binary64 x y))) (zero_times binary64 y ny) (mul_smono binary64 nought x y tt fx ny x0)
      by false true p q =
          let nx = sgn_natural x fx p in
          subst (λ (z : Float). T (le nought z)) (mul_commute binary64 y x fy fx)
          (subst (λ (z : Float). T (le z (mul binary64 y x))) (zero_times binary64 x nx) (mul_smono binary64 nought y x tt fy nx y0))
      by true true p q =
          nat_above (mul binary64 x y)
          (sgn_natural (mul binary64 x y) whole
          (ap sgn (mul_opened binary64 x y fx fy) ∙ round_sgn binary64 _ _ _ ∙ ap (λ (s : Bool). unlike s (sgn y)) p ∙ ap (unlike true) q))

-- x and y each from 0 to 1, so is their rounded product
pub product_in : (x y : Float) → FromZeroToOne x → FromZeroToOne y → FromZeroToOne (mul binary64 x y)
unfolding of_bits
product_in x y a b = record { low = low x y a.low a.high b.low b.high; high = high x y a.low a.high b.low b.high }
