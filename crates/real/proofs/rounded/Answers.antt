-- `real::rounded` meets its contract: it works out `by_rest`, which is the nearest whole number.
use Rattle.std.proofs.Common.{◌≡◌, ◌+◌, T, sym, ◌∙◌, subst}
use Rattle.real.proofs.Rounding.{by_rest, by_rest_lem}
use Rattle.real.proofs.rounded.Goals as goal

pub returns-then-x-f : goal.returns-then-x-f
unfolding by_rest
returns-then-x-f c =
    let h : c.truncating_f64_to_u64-t.result + 1 ≡ by_rest c.args.x =
    sym (rw (← c.truncating_f64_to_u64-t.ensures, ← c.nearest_u64_to_f64-f.ensures, c.if-x-f.true)) in
    h ∙ by_rest_lem c.args.x (subst T (sym c.well_formed.0.1) tt) c.requires.positive c.requires.below_2_to_32

pub returns-else-x-f : goal.returns-else-x-f
unfolding by_rest
returns-else-x-f c =
    let h : c.truncating_f64_to_u64-t.result ≡ by_rest c.args.x =
    sym (rw (← c.truncating_f64_to_u64-t.ensures, ← c.nearest_u64_to_f64-f.ensures, c.if-x-f.false)) in
    h ∙ by_rest_lem c.args.x (subst T (sym c.well_formed.0.1) tt) c.requires.positive c.requires.below_2_to_32
