-- The tests of `Rows` pass for each K from 0 to 1021, by computation alone. In two parts, each well within the work that one declaration may take.
use mathlib.Core.Logic.{inl, inr}
use Prim.Native.Nat.{ℕ, ◌<◌, zero-le}
use lib.Dec.{T}
use lib.Ieee.{mul, round, of_int, of_bits}
use Rattle.real.proofs.SignedOrder.{here_or_on}
use Rattle.exponent_table.specs.Reduction.{two_to_minus}
use Rattle.exponent_table.proofs.Tests.{sweep, sweep_sound}
use Rattle.accuracy.proofs.Rows.{Row, tests, row}

w0 : T (sweep tests 512 0)
unfolding mul round of_int of_bits two_to_minus
w0 = tt

w1 : T (sweep tests 510 512)
unfolding mul round of_int of_bits two_to_minus
w1 = tt

pub rows : (k : ℕ) → k < 1022 → Row k
rows k u = row k (elim (here_or_on k 512) [ inl h ↦ sweep_sound tests 512 0 k w0 zero-le h | inr h ↦ sweep_sound tests 510 512 k w1 h u ])
