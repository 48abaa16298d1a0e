-- `elementary::ln` meets its contract: its tests are the definition's. A number below infinity is no NaN, m's pattern has the exponent's field 1023, and e is an exact difference.
use Rattle.std.proofs.Common.{◌≡◌, ℕ, ◌/◌, ◌^◌, ◌<◌, T, pos, sym, ap, ◌∙◌, subst, arith, lit≤}
use lib.Ieee.{Float, binary64, sub, minus, of_bits, of_int, to_bits}
use lib.Ieee.Bits.{to_bits-lt}
use Rattle.elementary.specs.Ln.{lnv, ln_parts, mantissa, exponent}
use Rattle.elementary.proofs.WholeDifference.{whole_difference}
use Rattle.elementary.proofs.ln.Goals as goal

-- e, the exact difference
e_is : (b : ℕ) (e : Float) → b < 2 ^ 64 → e ≡ of_int binary64 (pos (b / 2 ^ 52)) → sub binary64 e (of_bits binary64 0x408F_F800_0000_0000) ≡ of_int binary64 (minus (b / 2 ^ 52) 1023)
unfolding of_bits of_int
e_is b e h k = rw k (whole_difference (b / 2 ^ 52) 1023 (omega arith) (lit≤ tt))

pub overflow_cast-b : goal.overflow_cast-b
overflow_cast-b c = omega (arith, (to_bits-lt binary64 c.args.v (subst T (sym c.well_formed.0.1) tt)))

pub returns-then-v-2 : goal.returns-then-v-2
unfolding lnv mantissa exponent of_bits of_int
returns-then-v-2 c =
    c.ln_parts.ensures
    ∙ ap (λ (e : Float). ln_parts (mantissa c.args.v) e) (e_is (to_bits binary64 c.args.v) _ (to_bits-lt binary64 c.args.v (subst T (sym c.well_formed.0.1) tt)) c.from-e.ensures)
    ∙ sym (rw (c.if-v.true, c.if-v-2.true))
