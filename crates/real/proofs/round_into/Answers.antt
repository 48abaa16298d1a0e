-- `real::round_into` meets its contract: from 0 down the answer is lo, and from 2 ^ 32 up it is hi.
use Rattle.std.proofs.Common.{Bool, not, T, sym, subst, arith, rules}
use Rattle.real.specs.Reals.{round_into}
use Rattle.real.proofs.Rounding.{round_none, round_many}
use Rattle.real.proofs.round_into.Goals as goal

pub returns-then-x : goal.returns-then-x
unfolding round_into
returns-then-x c =
    let k = round_many c.args.x (subst T (sym c.if-x.true) tt) (subst (λ (b : Bool). T (not b)) (sym c.if-x-2.false) tt) in
    record { is = omega arith; low = search rules; high = search rules }

pub returns : goal.returns
unfolding round_into
returns c =
    let k = round_none c.args.x (subst (λ (b : Bool). T (not b)) (sym c.if-x.false) tt) in
    record { is = omega arith; low = search rules; high = search rules }
