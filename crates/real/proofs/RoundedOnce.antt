-- Each operation of binary64 is that of fractions, rounded once to the nearest; sign and order need no rounding. Assumes nothing.
use Rattle.std.proofs.Common.{◌≡◌, ℕ, ◌+◌, ◌-◌, ◌*◌, Bool, true, false, cond, not, ◌&&◌, T, ltb, sym, refl, ap, ◌∙◌}
use mathlib.Core.Bool.{beq}
use lib.Ieee.{Float, nan, inf, fin, binary64, up, down, round, sum, add, sub, mul, div, neg, lt, of_bits}
use lib.Ieee.Scale.{finite}
use Rattle.real.specs.Fractions.{Fraction, fraction, fraction_opposite, fraction_joined, fraction_plus, fraction_minus, fraction_times, fraction_over, fraction_less, fraction_of, nearest64, Once, OnceBy}
use Rattle.real.specs.Arithmetic.{rounded, exact}
use Rattle.real.proofs.SignedOrder.{div_opened}

nearest_cond : (b : Bool) (x y : Fraction) → nearest64 (cond b x y) ≡ cond b (nearest64 x) (nearest64 y)
nearest_cond true x y = refl
nearest_cond false x y = refl

sum_once : (s t : Bool) (a b c : ℕ) → sum binary64 s a t b c ≡ nearest64 (fraction_joined s a t b c)
unfolding sum
sum_once s t a b c =
    sym (nearest_cond (beq s t) (fraction s (a + b) c) (cond (ltb a b) (fraction t (b - a) c) (fraction (s && ltb b a) (a - b) c))
    ∙ ap (cond (beq s t) (round binary64 s (a + b) c)) (nearest_cond (ltb a b) (fraction t (b - a) c) (fraction (s && ltb b a) (a - b) c)))

pub plus_once : Once (add binary64) fraction_plus
unfolding add
plus_once nan y p q = absurd p
plus_once (inf s) y p q = absurd p
plus_once (fin s m e) nan p q = absurd q
plus_once (fin s m e) (inf t) p q = absurd q
plus_once (fin s m e) (fin t n d) p q = sum_once s t (m * up e * down d) (n * up d * down e) (down e * down d)

pub minus_once : Once (sub binary64) fraction_minus
unfolding sub add neg
minus_once nan y p q = absurd p
minus_once (inf s) y p q = absurd p
minus_once (fin s m e) nan p q = absurd q
minus_once (fin s m e) (inf t) p q = absurd q
minus_once (fin s m e) (fin t n d) p q = sum_once s (not t) (m * up e * down d) (n * up d * down e) (down e * down d)

pub times_once : Once (mul binary64) fraction_times
unfolding mul
times_once nan y p q = absurd p
times_once (inf s) y p q = absurd p
times_once (fin s m e) nan p q = absurd q
times_once (fin s m e) (inf t) p q = absurd q
times_once (fin s m e) (fin t n d) p q = refl

pub over_once : OnceBy (div binary64) fraction_over
over_once nan y p q h = absurd p
over_once (inf s) y p q h = absurd p
over_once (fin s m e) nan p q h = absurd q
over_once (fin s m e) (inf t) p q h = absurd q
over_once (fin s m e) (fin t n d) p q h = div_opened binary64 (fin s m e) (fin t n d) p q h

pub opposite_exact : (x : Float) → T (finite x) → fraction_of (neg x) ≡ fraction_opposite (fraction_of x)
unfolding neg
opposite_exact nan p = absurd p
opposite_exact (inf s) p = absurd p
opposite_exact (fin s m e) p = refl

pub less_exact : (x y : Float) → T (finite x) → T (finite y) → lt x y ≡ fraction_less (fraction_of x) (fraction_of y)
unfolding lt
less_exact nan y p q = absurd p
less_exact (inf s) y p q = absurd p
less_exact (fin s m e) nan p q = absurd q
less_exact (fin s m e) (inf t) p q = absurd q
less_exact (fin s m e) (fin t n d) p q = refl

-- the constants need no rounding
pub constants_exact :
    (fraction_of rounded.nought ≡ exact.nought)
    × (fraction_of rounded.half ≡ exact.half)
    × (fraction_of rounded.one ≡ exact.one)
    × (fraction_of rounded.two ≡ exact.two)
unfolding of_bits
constants_exact = (refl, refl, refl, refl)
