-- `elementary::exp_near` meets its contract: the whole part is asked of a number from 1/2 to 1022, so K is 1021 at most.
use Rattle.std.proofs.Common.{true, ◌≡◌, ℕ, ◌≤◌, T, sym, subst, arith}
use lib.Ieee.{Float, le, of_bits}
use Rattle.exponent_table.proofs.Table.{uncut}
use Rattle.exponent_table.specs.Reduction.{floor708, exp_k, exp_rest}
use Rattle.real.specs.Reals.{zero64}
use Rattle.elementary.specs.Exp.{exp_near}
use Rattle.elementary.proofs.ExpRange.{uncut_in_range, K-le}
use Rattle.elementary.proofs.exp_near.Goals as goal

k_le : (k : ℕ) (v : Float) → k ≡ exp_k v → le floor708 v ≡ true → le v zero64 ≡ true → k ≤ 1021
k_le k v e low high = rw e (K-le _ (subst T (sym low) tt) (subst T (sym high) tt))

pub truncating_f64_to_u64-k-requires : goal.truncating_f64_to_u64-k-requires
unfolding of_bits uncut
truncating_f64_to_u64-k-requires c =
    let r = uncut_in_range _ (subst T (sym c.requires.from_708_below) tt) (subst T (sym c.requires.up_to_zero) tt) in
    record { lower_bound = r.0; upper_bound = r.1 }

pub overflow_cast-k : goal.overflow_cast-k
unfolding exp_k of_bits
overflow_cast-k c = omega (arith, k_le _ c.args.v c.truncating_f64_to_u64-k.ensures c.requires.from_708_below c.requires.up_to_zero)

pub two_to_minus-requires : goal.two_to_minus-requires
unfolding exp_k of_bits
two_to_minus-requires c = omega (arith, k_le _ c.args.v c.truncating_f64_to_u64-k.ensures c.requires.from_708_below c.requires.up_to_zero)

pub returns : goal.returns
unfolding exp_near exp_rest exp_k of_bits
returns c = rw (c.exp_steps.ensures, c.two_to_minus.ensures, c.from-kf.ensures, c.truncating_f64_to_u64-k.ensures)
