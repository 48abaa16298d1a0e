-- `root::positive` meets its contract, by the pattern of its argument and of its result.
use mathlib.Core.Path.{sym, subst, ap, ◌∙◌}
use Prim.Native.Nat.{ℕ, ◌+◌}
use mathlib.Core.Bool.{false}
use native.Mathlib.Omega.{arith}
use lib.Dec.{T}
use lib.Ieee.{binary64, units}
use Rattle.real.proofs.Values.{no_nan}
use Rattle.root.proofs.Powers.{PartedUnits}
use Rattle.root.proofs.Squares.{held}
use Rattle.root.proofs.Patterns.{pattern, assembled, the_root_units}
use Rattle.root.proofs.positive.Goals as goal

pub split-p-requires : goal.split-p-requires
split-p-requires c =
    record { not_zero = (pattern c.args.x (subst T (sym c.well_formed.0.1) tt) c.requires.above_zero c.requires.below_infinity).above; finite_pattern = (pattern c.args.x (subst T (sym c.well_formed.0.1) tt) c.requires.above_zero c.requires.below_infinity).below }

pub overflow_add-result-2 : goal.overflow_add-result-2
overflow_add-result-2 c = let b = held c.split-p.ensures c.quick-q.ensures in omega arith

pub float_from_bits-result : goal.float_from_bits-result
float_from_bits-result c = let b = held c.split-p.ensures c.quick-q.ensures in no_nan _ (omega arith)

pub returns : goal.returns
returns c =
    let p = c.split-p in
    let d = subst (λ (n : ℕ). PartedUnits n p.result.a p.result.h) (pattern c.args.x (subst T (sym c.well_formed.0.1) tt) c.requires.above_zero c.requires.below_infinity).units_are p.ensures in
    let r = c.quick-q in
    let b = held p.ensures r.ensures in
    assembled r.result (p.result.h + 484) b.0 b.1 (omega (arith, p.ensures.short))
    ∙ ap (λ (q : ℕ). units binary64 false q (p.result.h + 484)) r.ensures
    ∙ sym (the_root_units _ p.result.a p.result.h d)
