-- A computed test for each K from 0 to 1021: at two numbers that enclose every v with this K, K moves off and |r| stays under 0.35. Assumes nothing.
use Prim.Native.Nat.{ℕ, zero, suc, ◌+◌, ◌-◌, ◌*◌}
use mathlib.Core.List.{List, [], ◌∷◌}
use mathlib.Core.Bool.{Bool, true, false, ◌&&◌}
use lib.IntN.{pos}
use lib.Dec.{ltb}
use lib.Ieee.{Float, binary64, add, sub, mul, neg, le, of_int, of_bits, round}
use lib.Ieee.Scale.{finite}
use Rattle.real.proofs.SignedOrder.{natural}
use Rattle.real.specs.Reals.{half64}
use Rattle.real.proofs.Closed.{one, half, nought}
use Rattle.exponent_table.specs.Reduction.{HI, LO, INV, exp_k, exp_rest, two_to_minus}

-- 0.5 - v·INV
unfoldable pub uncut : Float → Float
unfolding sub mul of_bits
uncut v = sub binary64 half64 (mul binary64 v INV)

-- 0.35
abbrev pub R35 : Float
R35 = round binary64 false 35 100

-- -((k + 1/2) ln 2 + 0.0025) and, from k = 1 on, -((k - 1/2) ln 2 - 0.0025)
abbrev pub vl : ℕ → Float
vl k = round binary64 true ((2 * k + 1) * 693147181 + 5000000) 2000000000

abbrev pub vh : ℕ → Float
vh zero = nought
vh (suc k) = round binary64 true ((2 * k + 1) * 693147181 - 5000000) 2000000000

abbrev pub k_hi : ℕ → Float
k_hi k = mul binary64 (of_int binary64 (pos k)) HI

abbrev pub k_lo : ℕ → Float
k_lo k = mul binary64 (of_int binary64 (pos k)) LO

abbrev pub above : ℕ → Bool
above zero = true
above (suc k) = ltb (exp_k (vh (suc k))) (suc k) && le (two_to_minus (suc k)) half

abbrev pub tests : ℕ → List Bool
tests k =
    ltb k (exp_k (vl k)) ∷ above k ∷ le (neg R35) (exp_rest (vl k) k) ∷ le (exp_rest (vh k) k) R35
    ∷ finite (vl k) ∷ finite (vh k) ∷ finite (k_hi k) ∷ finite (k_lo k) ∷ finite (add binary64 (vl k) (k_hi k)) ∷ finite (add binary64 (vh k) (k_hi k))
    ∷ finite (mul binary64 (vl k) INV) ∷ finite (mul binary64 (vh k) INV) ∷ natural (uncut (vl k)) ∷ natural (uncut (vh k))
    ∷ natural (two_to_minus k) ∷ le (two_to_minus k) one ∷ []
