-- The fitted value and the weighted sum of the responses, as inner products. Assumes nothing.
use mathlib.Core.Path.{◌≡◌, sym, ap, ◌∙◌}
use mathlib.Core.List.{List}
use Prim.Native.Nat.{ℕ, ◌+◌, ◌*◌, ◌≤◌, ◌<◌}
use native.Mathlib.Omega.{arith}
use lib.ListN.{length, take, drop, get_or, length-drop}
use lib.Seq.{length-take-le, get_or-take}
use lib.Ieee.{Float, nan, binary64, add, mul}
use Rattle.std.proofs.lemmas.List.{get_or-drop}
use Rattle.real.specs.Fold.{range}
use Rattle.real.specs.Reals.{zero64, one64}
use Rattle.real.specs.Matrix.{Row}
use Rattle.real.proofs.Fold.{front}
use Rattle.normal.specs.Design.{predictors_of, design_row, design_of}
use Rattle.normal.proofs.DesignCells.{design_first, own_next, own_long, own_within, design_alone}
use Rattle.estimate.specs.Inner as estimate
use Rattle.estimate.proofs.Products.{inner_range}
use Rattle.evaluate.specs.Evaluate.{inner_step, inner_product}

-- the intercept apart, and then each coefficient with its predictor
pub fitted_is : (beta : Row) (own : List Float) (k : ℕ) → k ≡ length own → length own ≤ 7 → length beta ≡ 8
    → estimate.product_sum (add binary64 zero64 (mul binary64 (get_or beta 0 nan) one64)) (take k (drop 1 beta)) own ≡ inner_product beta (design_of own) (length own + 1)
unfolding inner_product inner_step
fitted_is beta own k e few eight =
    let p = length own in
    let start = add binary64 zero64 (mul binary64 (get_or beta 0 nan) one64) in
    let f = inner_step beta (design_of own) in
    let long : length (take p (drop 1 beta)) ≡ p = length-take-le p (drop 1 beta) (omega (arith, length-drop 1 beta)) in
    ap (λ (i : ℕ). estimate.product_sum start (take i (drop 1 beta)) own) e
    ∙ inner_range f 1 start (take p (drop 1 beta)) own long
    (λ q l s.
    let at : 1 + q ≡ q + 1 = omega arith in
    let below : q < p = omega arith in
    rw (get_or-take p (drop 1 beta) q nan below, get_or-drop 1 beta q nan, at, own_next own q few below))
    ∙ ap (λ (i : ℕ). range f 1 i start) (let z : 1 + length (take p (drop 1 beta)) ≡ p + 1 = omega arith in z)
    ∙ sym (front f 0 zero64 (p + 1) (omega arith) ∙ rw (design_first own p 0))

pub fitted_at : (x : List Float) (n p j : ℕ) → length x ≡ n * p → j < n → {own : List Float} → own ≡ predictors_of x p j → (beta : Row) {v : Float}
    → v ≡ inner_product beta (design_of own) (length own + 1) → v ≡ inner_product beta (design_row x p j) (p + 1)
fitted_at x n p j long h is beta e =
    let within = own_within x n p j long h in
    e
    ∙ ap (λ (o : List Float). inner_product beta (design_of o) (length o + 1)) is
    ∙ ap (λ (m : ℕ). inner_product beta (design_of (predictors_of x p j)) (m + 1)) (own_long x p j within)
    ∙ ap (λ (d : Row). inner_product beta d (p + 1)) (design_alone x p j within)

pub weighted_is : (w y : Row) (n : ℕ) → n ≤ length w → length y ≡ n → estimate.product_sum zero64 (take n w) y ≡ inner_product w y n
unfolding inner_product inner_step
weighted_is w y n h e =
    let long = length-take-le n w h in
    inner_range (inner_step w y) 0 zero64 (take n w) y (long ∙ sym e)
    (λ q l s. let z : 0 + q ≡ q = omega arith in rw (z, get_or-take n w q nan (omega arith)))
    ∙ ap (λ (i : ℕ). range (inner_step w y) 0 i zero64) (let z : 0 + length (take n w) ≡ n = omega arith in z)
