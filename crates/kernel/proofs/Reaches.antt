-- Where a kernel weighs nothing, told by sums of squares: what `reach` and `weight_within` ask. Assumes nothing.
use mathlib.Core.Path.{◌≡◌, refl, sym, subst, subst⁻¹}
use mathlib.Core.Bool.{Bool, true, false, not}
use lib.Dec.{T}
use Rattle.std.specs.Prelude.{Option, Some, IfSome}
use lib.Ieee.{Float, nan, inf, fin, binary64, sub, mul, lt, le, of_bits, fits, is_nan}
use lib.Ieee.Bits.{is_true, is_false}
use lib.Ieee.Fits.{add-fits, mul-fits, and_l, and_r}
use lib.Ieee.Scale.{finite}
use Rattle.real.specs.Reals.{zero64, inf64}
use Rattle.real.proofs.Values.{untrue}
use Rattle.real.proofs.Cases.{by_truth}
use Rattle.real.proofs.SignedOrder.{nonneg, le_tr, apart, nlt→le}
use Rattle.root.specs.Root.{root}
use Rattle.kernel.specs.declared.GwrKernel.{GwrKernel}
use Rattle.kernel.specs.declared.GwrKernel.TheVariants.{Gaussian, Bisquare, Exponential}
use Rattle.kernel.specs.Published.{bisquare_formula}
use Rattle.kernel.specs.Weight.{squares_of, distance_of, unusable, weight_of}
use Rattle.kernel.specs.Reach.{bisquare_reach, reach_of, Reach}
use Rattle.kernel.proofs.DistanceRange.{square_nonneg}
use Rattle.kernel.proofs.WeightRange.{usable_of}
use Rattle.root.proofs.Order.{root_ends, and_false, root_order}

pub squares_fits : (ax ay bx by : Float) → T (fits binary64 (squares_of ax ay bx by))
unfolding squares_of
squares_fits ax ay bx by = let dx = sub binary64 ax bx in let dy = sub binary64 ay by in add-fits binary64 (mul binary64 dx dx) (mul binary64 dy dy)

pub distance_is : (ax ay bx by : Float) → distance_of ax ay bx by ≡ root (squares_of ax ay bx by)
unfolding distance_of
distance_is ax ay bx by = refl

-- ---- where the bandwidth is in use and the root of c reaches it
number_right : (x y : Float) → T (le x y) → T (not (is_nan y))
unfolding le is_nan
number_right nan y h = absurd h
number_right (inf s) nan h = absurd h
number_right (inf s) (inf t) h = tt
number_right (inf s) (fin t n d) h = tt
number_right (fin s m e) nan h = absurd h
number_right (fin s m e) (inf t) h = tt
number_right (fin s m e) (fin t n d) h = tt

pub above_nonneg : (x : Float) → T (lt zero64 x) → T (nonneg x)
unfolding lt of_bits
above_nonneg nan h = absurd h
above_nonneg (inf true) h = absurd h
above_nonneg (inf false) h = tt
above_nonneg (fin true m e) h = absurd h
above_nonneg (fin false m e) h = tt

finite_number : (x : Float) → T (finite x) → T (not (is_nan x))
unfolding is_nan
finite_number nan p = absurd p
finite_number (inf s) p = absurd p
finite_number (fin s m e) p = tt

module _ (b : Float) (f : T (finite b)) (p : T (lt zero64 b)) (h : T (le b (root (mul binary64 b b)))) where
  abbrev c : Float
  c = mul binary64 b b

  c_nonneg : T (nonneg c)
  c_nonneg = square_nonneg b (finite_number b f)

  -- what is from c on is above zero: else c were zero, and its own root
  past_above : (s : Float) → T (le c s) → T (lt zero64 s)
  unfolding of_bits is_nan
  past_above s k =
      by_truth (lt zero64 s) (λ t. t)
      (λ t.
      let low : T (le c zero64) = le_tr c s zero64 k (nlt→le zero64 s tt (number_right c s k) t) in
      let own : root c ≡ c = root_ends c c_nonneg (and_false (lt zero64 c) (lt c inf64) (subst (λ (z : Bool). T (not z)) (sym (untrue (lt zero64 c) (λ u. apart zero64 c u low))) tt)) in
      absurd (apart zero64 b p (le_tr b c zero64 (subst (λ (z : Float). T (le b z)) own h) low)))

  -- the root of no number from c on is below b
  beyond : (s : Float) → T (fits binary64 s) → T (le c s) → lt (root s) b ≡ false
  beyond s g k = untrue (lt (root s) b) (λ u. apart (root s) b u (le_tr b (root c) (root s) h (root_order c s (mul-fits binary64 b b) g c_nonneg (above_nonneg s (past_above s k)) k)))

-- ---- the Bisquare's

-- a bandwidth in use is finite and above 0
in_use : (b : Float) → T (not (unusable b)) → T (finite b) × T (lt zero64 b)
unfolding of_bits
in_use b u = let h = usable_of b u in (and_l (finite b) (lt zero64 b) h, and_r (finite b) (lt zero64 b) h)

bisquare_reach_lem : (b : Float) → IfSome (bisquare_reach b) (Reach Bisquare b)
unfolding bisquare_reach weight_of bisquare_formula
bisquare_reach_lem b =
    by_truth (unusable b) (λ u. rw (is_true (unusable b) u) tt)
    (λ u.
    let i = in_use b u in
    let e = is_false (unusable b) u in
    by_truth (le b (root (mul binary64 b b))) (λ h. rw (e, is_true (le b (root (mul binary64 b b))) h) (record { past = λ s f k. rw (e, beyond b i.0 i.1 h s f k) }))
    (λ h. rw (e, is_false (le b (root (mul binary64 b b))) h) tt))

-- ---- every kernel's
reach_of_lem : (k : GwrKernel) (b : Float) → IfSome (reach_of k b) (Reach k b)
reach_of_lem Gaussian b = tt
reach_of_lem Bisquare b = bisquare_reach_lem b
reach_of_lem Exponential b = tt

pub reaches : {k : GwrKernel} {b r : Float} → Some r ≡ reach_of k b → Reach k b r
reaches {k} {b} e = subst⁻¹ (λ (o : Option Float). IfSome o (Reach k b)) e (reach_of_lem k b)
