-- The tests of the table pass for each K from 0 to 1021, by computation alone. In four parts, each well within the work that one declaration may take.
use mathlib.Core.Logic.{inl, inr}
use Prim.Native.Nat.{ℕ, ◌<◌, zero-le}
use lib.Dec.{T}
use lib.Ieee.{add, mul, neg, le, round, of_int, of_bits}
use Rattle.real.proofs.SignedOrder.{here_or_on}
use Rattle.exponent_table.specs.Reduction.{exp_k, exp_rest, two_to_minus}
use Rattle.exponent_table.proofs.Tests.{All, sweep, sweep_sound}
use Rattle.exponent_table.proofs.Table.{uncut, tests}

w0 : T (sweep tests 256 0)
unfolding add mul neg le exp_k exp_rest two_to_minus uncut round of_int of_bits
w0 = tt

w1 : T (sweep tests 256 256)
unfolding add mul neg le exp_k exp_rest two_to_minus uncut round of_int of_bits
w1 = tt

w2 : T (sweep tests 256 512)
unfolding add mul neg le exp_k exp_rest two_to_minus uncut round of_int of_bits
w2 = tt

w3 : T (sweep tests 254 768)
unfolding add mul neg le exp_k exp_rest two_to_minus uncut round of_int of_bits
w3 = tt

pub table : (k : ℕ) → k < 1022 → All (tests k)
table k u =
    elim (here_or_on k 256) [
      | inl h ↦ sweep_sound tests 256 0 k w0 zero-le h
      | inr h ↦
          elim (here_or_on k 512) [
            | inl g ↦ sweep_sound tests 256 256 k w1 h g
            | inr g ↦ elim (here_or_on k 768) [ inl i ↦ sweep_sound tests 256 512 k w2 g i | inr i ↦ sweep_sound tests 254 768 k w3 i u ]
          ]
    ]
