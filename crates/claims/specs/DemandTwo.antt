-- Demand 2: document 01 sets the steps of exp and ln and adds limits; else the Rust rules. Kernels, golden section, AICc and square root are held against their published definitions, the listed spots apart.
-- Definitions only; proofs/DemandTwo proves it, each part by a theorem of the crate that has the definition.
-- That the function `gwr_fit` equals the definition of its name, in every bit of its answer and its output and on every input, is its contract; the definition is 000's `gwr_fit` line by line, the default count apart, of unguarded jobs whose data ask for no trusts; with 02's line added of guarded ones, and with 02's product in each weight where there are trusts. Here is what it says beyond that.
use Rattle.std.specs.Prelude.{Some, ℕ, ◌+◌, ◌-◌, ◌*◌, ◌/◌, ◌%◌, ◌^◌, ◌≤◌, ◌<◌, min, max, ◌≡◌, Bool, true, false, not, cond, T, pos, length, Float, Ok, Err}
use mathlib.Core.List.{List, [], ◌∷◌, Permᴰ}
use Rattle.std.specs.Float.{nan, inf, fin, binary64}
use Rattle.std.specs.Float.Ieee.{mul, neg, lt, le, eq, fits, is_nan, to_bits}
use Rattle.std.specs.Float.Ieee.Scale.{finite}
use Rattle.claims.specs.Words.{zero64, one64, eps64, least_normal, inf64, from_count, Fraction, fraction, fraction_of, Once, OnceBy, Arithmetic, rounded, exact, root, NearestRoot, floor708, exp_k, expv, lnv, LnFinite, SplitAs, DeviationNotFinite, GwrKernel, Gaussian, Bisquare, Exponential, unusable, weight_of, FromZeroToOne, kernel_formula, exact_weight, power_of_e, plain_weight, NoneOf, GwrBandwidth, AdaptiveKnn, Setup, Data, under, setup_of, Sized, ceil_root, LeastRoot, resolve_count, between, nearest_of, all_distances, met_distances, Ascending, kth_nearest, weights_at, Solves, deviation, freedom, aicc_published, aicc_formula, pi64, exhausted, corrected_aic, Bracket, inv_phi, inv_phi2, G, G2, start_of, goes_left, narrow_of, Span, Inside, Framed, KieferRound, Narrowed, tried_of, played_of, SearchInside, Valley, ScoredBy, Follows, GwrCriterion, Unguarded, Guarded, GwrOptions, options_of, named, bandwidth_at, fit_tests, accept_of, trial_of, golden_section_min, final_of, gwr_fit, fitted, Row, Matrix, Exact, equations_of}
use Rattle.claims.specs.Words.{NearPowerSeries, WeightSumNotPositive, trusted_weight, data_of, trusting, solve_location, Job, begin_of, turn_of, Row, Matrix, Exact, equations_of}
use Rattle.golden.specs.Points as points
use Rattle.plan.specs.declared.Plan.TheVariants as plan

-- options that ask for a count and no search
abbrev pub by_count : GwrCriterion → GwrKernel → ℕ → GwrOptions
by_count c kernel k = record { kernel = kernel; bandwidth = AdaptiveKnn k; optimize_bandwidth = false; criterion = c }

pub record DemandTwo : Type 1 where
  -- ---- golden section: 000's `golden_section_min` as it is written

  -- an unsearched fit, and a search with no trial, are a final fit at once
  pub settled : (d : Data) (p : ℕ) (o : GwrOptions) (out : List Float) (b : GwrBandwidth) → accept_of d p o (length out) ≡ Ok (plan.Settled b)
      → gwr_fit d p o out ≡ fitted (final_of (setup_of d p o) d b 0 out)
  -- a searched one is a final fit at the point that `golden_section_min` finds, after its solves
  pub searched : (d : Data) (p : ℕ) (o : GwrOptions) (out : List Float) (lo hi : Float) → accept_of d p o (length out) ≡ Ok (plan.Sought lo hi) →
      let u = setup_of d p o in
      let m = golden_section_min (trial_of u d) lo hi in
      gwr_fit d p o out ≡ fitted (final_of u d (bandwidth_at u m.0) m.1 out)
  -- the constants of the code are the root of 5, less 1, over 2, and its square, as 000 works them out
  pub ratio : (G ≡ inv_phi) × (G2 ≡ inv_phi2)
  -- Kiefer 1953: a round keeps the part about the lower score, reuses one inner point and its score, and makes one new trial
  pub round_kiefer : (g : Bracket) (s : Float) → KieferRound g (narrow_of g s) s
  -- the points stand at the golden section. 000's are the formulas with each operation rounded once
  pub first_points : (lo hi : Float) → points.section_of (start_of lo hi) ≡ points.section_at rounded G lo hi
  pub next_points : (g : Bracket) (s : Float) → points.section_of (narrow_of g s) ≡ points.next_section rounded G (goes_left g) (points.section_of g)
  -- where nothing is rounded and g² = 1 - g, they are Kiefer's: a + g²·h is b - g·h, and after a round on either side the reused point stands where the part kept wants it
  pub golden_section : {R : Type 0} (A : Arithmetic R) → points.CommutativeRing A → (g : R) → A.times g g ≡ A.minus A.one g → (a b : R) → points.GoldenSection A g a b
  -- of any other ratio, what e = g² + g - 1 leaves of that
  pub residues : {R : Type 0} (A : Arithmetic R) → points.CommutativeRing A → (g a b : R) → points.Residues A g (A.minus (A.plus (A.times g g) g) A.one) a b
  -- and of G that is 38494044947129 / 2^98, below 2^-52; G2 - (1 - G) is 2^-53
  pub ratio_near : points.NearGolden
  -- an accepted job's search goes between finite numbers lo ≤ hi whose difference is finite
  pub search_span : (d : Data) (p : ℕ) (o : GwrOptions) (out : List Float) (lo hi : Float) → accept_of d p o (length out) ≡ Ok (plan.Sought lo hi) → Span lo hi
  -- of any number of its rounds, every point tried lies from lo to hi, rounding included, and the answer is a point tried
  pub points_inside : (d : Data) (p : ℕ) (o : GwrOptions) (out : List Float) (lo hi : Float) → accept_of d p o (length out) ≡ Ok (plan.Sought lo hi)
      → (s t : Float) (l : List Float) → SearchInside lo hi s t l
  -- as of every search between such numbers
  pub span_inside : {lo hi : Float} → Span lo hi → (s t : Float) (l : List Float) → SearchInside lo hi s t l
  -- of a score with one valley on the points compared, a round that begins with c < d keeps the bottom m in the bracket
  pub bottom_kept : (f : Float → Float) (g : Bracket) (s m : Float) → T (lt g.c g.d) → ScoredBy f g
      → Valley f (g.c ∷ g.d ∷ []) m → Inside g.a g.b m → Inside (narrow_of g s).a (narrow_of g s).b m
  -- and so do any number of them
  pub bottom_stays : (f : Float → Float) (m : Float) (g : Bracket) (l : List Float) → ScoredBy f g → Follows f g l
      → Valley f (g.c ∷ g.d ∷ tried_of g l) m → Inside g.a g.b m → Inside (played_of g l).a (played_of g l).b m
  -- a bracket lies within the one before while its inner points are in order, c ≤ d as in the published method; the listed spot: rounding can put them out of order
  pub round_narrows : (g : Bracket) (s : Float) → Framed g → T (le g.c g.d) → Narrowed g (narrow_of g s)
  -- ---- the local solve: Fotheringham, Brunsdon and Charlton 2002

  -- where nothing was rounded, the coefficients solve (XᵀWX) β = XᵀWy
  pub normal_equations : (u : Setup) (d : Data) (w : Row) (a : Matrix) (beta : Row) → Exact u d w (equations_of u d w) a beta → Solves u d w beta
  -- ---- the square root: IEEE 754, nearest, ties to the even last bit

  -- of a positive finite number every other binary64 lies farther from the exact root, so that no tie occurs
  pub root_nearest : (x : Float) → T (fits binary64 x) → T (lt zero64 x) → T (lt x inf64) → NearestRoot x (root x)
  -- a negative number's is NaN; zero, +infinity and NaN are their own
  pub root_negative : (x : Float) → T (lt x zero64) → root x ≡ nan
  pub root_own : (root nan ≡ nan) × (root (inf false) ≡ inf false) × ((s : Bool) → root (fin s 0 (pos 0)) ≡ fin s 0 (pos 0))
  -- ---- exp and ln: 01's steps

  -- exp of v ≤ 0 is finite and lies from 0 to 1; 2^-K stays normal
  pub exp_range : (v : Float) → T (not (is_nan v)) → T (le v zero64) → T (finite (expv v)) × T (le zero64 (expv v)) × T (le (expv v) one64)
  pub exp_halvings : (v : Float) → T (le floor708 v) → T (le v zero64) → exp_k v ≤ 1021
  -- for every v from -708 to 0, exp is true to a part in 2^48, by every partial sum of the power series at v
  pub exp_near_lem : (v : Float) → T (fits binary64 v) → T (le floor708 v) → T (le v zero64) → NearPowerSeries (fraction_of v) (fraction_of (expv v))
  -- of a positive normal number every step of ln is finite, and v is m·2^e exactly
  pub ln_finite : (v : Float) → T (fits binary64 v) → T (le least_normal v) → T (lt v inf64) → LnFinite v
  pub ln_split_lem : (v : Float) → T (fits binary64 v) → T (le least_normal v) → T (lt v inf64)
      → SplitAs v (2 ^ 52 + to_bits binary64 v % 2 ^ 52) (to_bits binary64 v / 2 ^ 52)
  -- ---- kernels: Fotheringham, Brunsdon and Charlton 2002

  -- the published formula with each operation rounded once
  pub kernel_formula_lem : (k : GwrKernel) (d b : Float) → T (not (unusable b)) → weight_of k d b ≡ kernel_formula rounded expv (λ x. x) k d b
  -- the listed spot: b not finite or b ≤ 0
  pub kernel_spot : (k : GwrKernel) (d b : Float) → T (unusable b) → weight_of k d b ≡ cond (eq d zero64) one64 zero64
  -- on fractions, where nothing is rounded, the formulas are exp(-(d/b)²/2), (1 - (d/b)²)² below b and 0 from there on, exp(-d/b); here d/b is (a/c)/(p/q)
  pub gaussian : (a c p q : ℕ) → exact_weight Gaussian (fraction false a c) (fraction false p q)
      ≡ power_of_e (fraction true (a * q * (a * q)) (2 * (p * c * (p * c))))
  pub bisquare : (a c p q : ℕ) → a * q < p * c →
      let u = p * c * (p * c) - a * q * (a * q) in
      exact_weight Bisquare (fraction false a c) (fraction false p q) ≡ plain_weight (fraction false (u * u) (p * c * (p * c) * (p * c * (p * c))))
  pub bisquare_outside : (a c p q : ℕ) → p * c ≤ a * q → exact_weight Bisquare (fraction false a c) (fraction false p q) ≡ plain_weight (fraction false 0 1)
  pub exponential : (a c p q : ℕ) → exact_weight Exponential (fraction false a c) (fraction false p q) ≡ power_of_e (fraction true (a * q) (p * c))
  -- and an operation is that of fractions, rounded once to the nearest; sign, comparison and constants are those of fractions
  pub plus_once : Once rounded.plus exact.plus
  pub minus_once : Once rounded.minus exact.minus
  pub times_once : Once rounded.times exact.times
  pub over_once : OnceBy rounded.over exact.over
  pub opposite_exact : (x : Float) → T (finite x) → fraction_of (rounded.opposite x) ≡ exact.opposite (fraction_of x)
  pub less_exact : (x y : Float) → T (finite x) → T (finite y) → rounded.less x y ≡ exact.less (fraction_of x) (fraction_of y)
  pub constants_exact :
      (fraction_of rounded.nought ≡ exact.nought) × (fraction_of rounded.half ≡ exact.half) × (fraction_of rounded.one ≡ exact.one) × (fraction_of rounded.two ≡ exact.two)
  -- every kernel weight of a non-negative distance lies from 0 to 1, and a location's own kernel weight is 1
  pub weight_range : (k : GwrKernel) (d b : Float) → T (le zero64 d) → FromZeroToOne (weight_of k d b)
  pub weight_own : (k : GwrKernel) (s : Bool) (b : Float) → weight_of k (fin s 0 (pos 0)) b ≡ one64
  -- ---- trusts

  -- 02: a weight times a trust lies from 0 to 1
  pub product_range : (w t : Float) → FromZeroToOne w → FromZeroToOne t → FromZeroToOne (mul binary64 w t)
  -- so the weight sum is finite at every location of every accepted job, whichever bandwidth, and above 0 where the location's own trust times 1 is
  pub weight_sum : (d : Data) (p : ℕ) (o : GwrOptions) (out : ℕ) → NoneOf (fit_tests d p o out) → (i : ℕ) → i < (setup_of d p o).n → (b : Float) →
      let sum = (weights_at (setup_of d p o) d i b).1 in
      T (finite sum) × (T (lt zero64 (trusted_weight d.trusts i one64)) → T (lt zero64 sum))
  -- 27 is not met there
  pub weighs : (d : Data) (p : ℕ) (o : GwrOptions) (out : ℕ) → NoneOf (fit_tests d p o out) → (i : ℕ) → i < (setup_of d p o).n → (b : GwrBandwidth)
      → T (lt zero64 (trusted_weight d.trusts i one64)) → (solve_location (setup_of d p o) d b i) ≡ Err WeightSumNotPositive → ⊥
  -- 01: 000's refusal of a weight sum never occurs where no trust is asked for
  pub weight_sum_untrusted : (coords x y : List Float) (p : ℕ) (o : GwrOptions) (out : ℕ) →
      let d = data_of coords x y in
      NoneOf (fit_tests d p o out) → (i : ℕ) → i < (setup_of d p o).n → (b : Float) →
      let sum = (weights_at (setup_of d p o) d i b).1 in
      T (finite sum) × T (lt zero64 sum)
  -- 02: with trusts of 1 the results are those of data for which no trust is asked, as 000 has them: each local solve and each trial's score
  pub trusting_solve : (u : Setup) (coords x y : List Float) → length y ≡ u.n → (b : GwrBandwidth) (i : ℕ) → solve_location u (trusting coords x y) b i ≡ solve_location u (data_of coords x y) b i
  pub trusting_score : (u : Setup) (coords x y : List Float) → length y ≡ u.n → (point : Float) → trial_of u (trusting coords x y) point ≡ trial_of u (data_of coords x y) point
  -- and of every input, refused or not, the fit, the beginning, and a turn of any record
  pub trusting_fit : (coords x y : List Float) (p : ℕ) (o : GwrOptions) (out : List Float) → gwr_fit (trusting coords x y) p o out ≡ gwr_fit (data_of coords x y) p o out
  pub trusting_begin : (coords x y : List Float) (p : ℕ) (o : GwrOptions) (out : ℕ) → begin_of (trusting coords x y) p o out ≡ begin_of (data_of coords x y) p o out
  pub trusting_turn : (j : Job) (coords x y : List Float) (out : List Float) (a : ℕ) → turn_of j (trusting coords x y) out a ≡ turn_of j (data_of coords x y) out a
  -- ---- neighbours

  -- a location's bandwidth is its k-th smallest distance to the others (`all_distances`), if that is zero the greatest of them and EPS
  pub kth_smallest_lem : (d : Data) (p : ℕ) (o : GwrOptions) (out : ℕ) → NoneOf (fit_tests d p o out) → (i k : ℕ) →
      let n = (setup_of d p o).n in
      i < n → 1 ≤ k → nearest_of d.coords n i k ≡ kth_nearest (Some i) (between d.coords i) n k
  -- `all_distances` has every one of them, in ascending order
  pub all_distances_lem : (coords : List Float) (i m : ℕ) → Permᴰ (all_distances (Some i) (between coords i) m) (met_distances (Some i) (between coords i) m)
  pub ascending : (d : Data) (p : ℕ) (o : GwrOptions) (out : ℕ) → NoneOf (fit_tests d p o out) → (i : ℕ) → i < (setup_of d p o).n
      → Ascending (all_distances (Some i) (between d.coords i) (setup_of d p o).n)
  -- 02: an unsearched count 0 becomes the larger of p + 3 and the least whole number whose square reaches n, then is capped at n - 1 and raised to at least 1
  pub default_count : (n p r : ℕ) → LeastRoot n r → resolve_count 0 n p ≡ max (min (max (p + 3) r) (n - 1)) 1
  -- there is such a number
  pub least_root : (n : ℕ) → LeastRoot n (ceil_root n)
  -- any other count is capped and raised alone, whatever p is, as in 000
  pub given_count : (k n p : ℕ) → 1 ≤ k → resolve_count k n p ≡ max (min k (n - 1)) 1
  -- an accepted fit by a count is the final fit with as many neighbours as the count becomes
  pub by_count_lem : (d : Data) (p : ℕ) (c : GwrCriterion) (kernel : GwrKernel) (k : ℕ) (out : List Float) →
      let u = setup_of d p (by_count c kernel k) in
      NoneOf (fit_tests d p (by_count c kernel k) (length out)) → gwr_fit d p (by_count c kernel k) out ≡ fitted (final_of u d (AdaptiveKnn (resolve_count k u.n p)) 0 out)
  -- 02: equality with `gwr_fit` is judged by handing it the resolved count. A fit by a count is the fit by what the count becomes, accepted or refused
  pub count_named : (d : Data) (p : ℕ) (c : GwrCriterion) (kernel : GwrKernel) (k : ℕ) (out : List Float)
      → gwr_fit d p (by_count c kernel k) out ≡ gwr_fit d p (by_count c kernel (resolve_count k (setup_of d p (by_count c kernel k)).n p)) out
  -- ---- AICc: Fotheringham, Brunsdon and Charlton 2002

  -- the published formula in 000's order, each operation rounded once: the operations and 2 as above, the root the nearest to the exact one (`root_nearest`), ln by 01's steps
  pub aicc_formula_lem : (u : Setup) (rss trace : Float) →
      let sigma = deviation rounded root (from_count u.n) rss in
      T (finite sigma) → T (not (le sigma zero64)) → T (not (exhausted u.options.criterion (freedom rounded (from_count u.n) trace)))
      → corrected_aic u rss trace ≡ Ok (aicc_formula rounded pi64 lnv (from_count u.n) sigma trace)
  -- 000's order is that of the publication where a product and a quotient may change places, as exact fractions do, whatever stands for π and ln
  pub aicc_order : (pi : Fraction) (ln : Fraction → Fraction) (n sigma trace : Fraction)
      → aicc_published exact pi ln n sigma trace ≡ aicc_formula exact pi ln n sigma trace
  -- the listed spots: a root of mean square of 0 is replaced by 2^-1022, |D| ≤ EPS, or guarded D ≤ EPS, gives +infinity, and one not finite is refusal 17
  pub aicc_zero : (u : Setup) (rss trace : Float) →
      let sigma = deviation rounded root (from_count u.n) rss in
      T (finite sigma) → T (le sigma zero64) → T (not (exhausted u.options.criterion (freedom rounded (from_count u.n) trace)))
      → corrected_aic u rss trace ≡ Ok (aicc_formula rounded pi64 lnv (from_count u.n) least_normal trace)
  pub aicc_exhausted : (u : Setup) (rss trace : Float) → T (finite (deviation rounded root (from_count u.n) rss)) → T (exhausted u.options.criterion (freedom rounded (from_count u.n) trace)) → corrected_aic u rss trace ≡ Ok inf64
  pub aicc_refused : (u : Setup) (rss trace : Float) → T (not (finite (deviation rounded root (from_count u.n) rss))) → corrected_aic u rss trace ≡ Err DeviationNotFinite
  -- 02: guarded is unguarded wherever D is not below -EPS
  pub guard_same : (u : Setup) (rss trace : Float) → T (not (lt (freedom rounded (from_count u.n) trace) (neg eps64))) → corrected_aic (under Guarded u) rss trace ≡ corrected_aic (under Unguarded u) rss trace
  -- where it is, and 17 is not met, guarded is +infinity and unguarded never is
  pub guard_differs : (u : Setup) (rss trace : Float) → Sized u → T (finite (deviation rounded root (from_count u.n) rss)) → T (lt (freedom rounded (from_count u.n) trace) (neg eps64))
      → (corrected_aic (under Guarded u) rss trace ≡ Ok inf64) × (corrected_aic (under Unguarded u) rss trace ≡ Ok inf64 → ⊥)
  -- a D that is NaN is worked as it falls, to NaN, by either
  pub guard_nan : (u : Setup) (rss trace : Float) → T (finite (deviation rounded root (from_count u.n) rss)) → freedom rounded (from_count u.n) trace ≡ nan → corrected_aic u rss trace ≡ Ok nan
  -- byte calls and `gwrprint` know no other than unguarded
  pub bytes_unguarded : (kernel kind bandwidth : ℕ) → (named (options_of kernel kind bandwidth)).criterion ≡ Unguarded
