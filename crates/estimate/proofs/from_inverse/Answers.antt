-- `estimate::from_inverse` meets its contract: by whether the inverse is finite, and then the coefficients.
use mathlib.Core.Path.{sym}
use native.Mathlib.Omega.{arith}
use Rattle.estimate.specs.Estimate.{coefficients_of, from_inverse}
use Rattle.estimate.proofs.Lengths.{coefficients_eight}
use Rattle.estimate.proofs.Products.{coefficients_tested}
use Rattle.estimate.proofs.from_inverse.Goals as goal

pub returns-then-not-inverse_finite : goal.returns-then-not-inverse_finite
unfolding from_inverse
returns-then-not-inverse_finite c = sym (rw (← c.inverse_finite.ensures, c.if-not-inverse_finite.true))

-- a coefficient is not finite
pub returns-then-not-all_finite : goal.returns-then-not-all_finite
unfolding from_inverse
returns-then-not-all_finite c =
    let s = c.args in
    let tested = coefficients_tested (coefficients_of s.inverse.now s.rhs s.m) s.m (omega (arith, coefficients_eight s.inverse.now s.rhs s.m, c.requires)) in
    sym (rw (← c.inverse_finite.ensures, c.if-not-inverse_finite.false, ← tested, ← c.coefficients_of-beta.ensures, ← c.all_finite.ensures, c.if-not-all_finite.true))

pub returns : goal.returns
unfolding from_inverse
returns c =
    let s = c.args in
    let tested = coefficients_tested (coefficients_of s.inverse.now s.rhs s.m) s.m (omega (arith, coefficients_eight s.inverse.now s.rhs s.m, c.requires)) in
    sym (rw (← c.inverse_finite.ensures, c.if-not-inverse_finite.false, ← tested, ← c.coefficients_of-beta.ensures, ← c.all_finite.ensures, c.if-not-all_finite.false))
