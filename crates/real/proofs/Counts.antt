-- A count as a real: up to 2^53 it is that whole number exactly, finite and from 0 up; and the order is that of the counts. Assumes nothing.
use Rattle.std.proofs.Common.{ℕ, ◌*◌, ◌^◌, ◌<◌, ◌≤◌, true, false, T, sym, ◌∙◌, subst, true≢false, mul-pos, mul-one, arith, lit<}
use lib.Ieee.{Float, nan, inf, fin, binary64, up, le, of_int}
use lib.Ieee.Back.{round_whole}
use lib.Ieee.Exact.{HasValue}
use lib.Ieee.Fits.{down_pos}
use lib.Ieee.Positive.{num}
use Rattle.real.specs.Reals.{from_count}
use Rattle.real.proofs.SignedOrder.{natural, round_smono}

pub count_value : (n : ℕ) → n ≤ 2 ^ 53 → HasValue (from_count n) false n 1
unfolding of_int
count_value n h = round_whole binary64 false n h

whole_natural : (x : Float) (n : ℕ) → HasValue x false n 1 → T (natural x) × (0 < n → 0 < num x)
whole_natural nan n h = absurd h
whole_natural (inf s) n h = absurd h
whole_natural (fin true m e) n h = absurd (true≢false h.0)
whole_natural (fin false m e) n h = (tt, λ k. subst (λ (z : ℕ). 0 < z) (sym (sym (mul-one (m * up e)) ∙ h.1)) (mul-pos k (down_pos e)))

-- above 0 where the count is
pub count_natural : (n : ℕ) → n ≤ 2 ^ 53 → T (natural (from_count n)) × (0 < n → 0 < num (from_count n))
count_natural n h = whole_natural (from_count n) n (count_value n h)

pub count_order : (m n : ℕ) → m ≤ n → T (le (from_count m) (from_count n))
unfolding of_int
count_order m n h = round_smono binary64 false false m 1 n 1 (lit< tt) (lit< tt) (omega arith)
