-- AICc's formula of at most 512 observations is never plus infinity where n - 2 - trace is below 0: its first two terms are finite, and the third is no more than 0, or no number. Assumes nothing.
use Rattle.std.proofs.Common.{◌≡◌, ℕ, ◌*◌, ◌<◌, ◌≤◌, Bool, true, false, not, T, eqb, pos, sym, refl, ap, ◌∙◌, subst, inl, inr, true≢false, mul-pos, zero-mul, arith}
use lib.Dec.{not_T}
use lib.Ieee.{Float, nan, inf, fin, binary64, up, down, add, sub, mul, div, neg, lt, le, is_nan, round, of_bits, of_int}
use lib.Ieee.Fits.{down_pos}
use lib.Ieee.Scale.{finite}
use Rattle.real.specs.Reals.{two64, from_count, magnitude}
use Rattle.real.specs.Arithmetic.{rounded}
use Rattle.real.proofs.Cases.{either}
use Rattle.real.proofs.Closed.{nought, one}
use Rattle.real.proofs.Counts.{count_natural, count_order}
use Rattle.real.proofs.SignedOrder.{natural, nat_fin, nat_above, neg_anti, le→sle, sle→le, le_tr, le_total, apart, nlt→le, number_left, here_or_on, le_self, in_fin, add_mono, sub_opened, neg_finite, mul_mag, mul_nmono, mul_smono, mul_commute, zero_times, div_opened, round_below, zero_of, mag_nat, mag_in, mag_self, mag_finite}
use Rattle.elementary.specs.Ln.{lnv}
use Rattle.elementary.specs.LnSteps.{LnFinite}
use Rattle.criterion.specs.Aicc.{pi64}
use Rattle.criterion.specs.Published.{freedom, aicc_formula}
use Rattle.criterion.proofs.Published.{ln_two_pi}

-- ---- signs: no more than 0, or no number

-- x not below 0 over y below 0
over_below : (x y : Float) → T (not (lt x nought)) → T (lt y nought) → T (not (lt nought (div binary64 x y)))
over_below nan y h k = unfold div lt in tt
over_below (inf true) y h k = absurd (unfold lt in h)
over_below (inf false) nan h k = absurd (unfold lt in k)
over_below (inf false) (inf t) h k = unfold div lt in tt
over_below (inf false) (fin true n d) h k = unfold div lt in tt
over_below (inf false) (fin false n d) h k = absurd (apart (fin false n d) nought k (nat_above (fin false n d) tt))
over_below (fin s m e) nan h k = absurd (unfold lt in k)
over_below (fin true m e) (inf true) h k = unfold div lt in tt
over_below (fin false m e) (inf true) h k = unfold div lt in tt
over_below (fin s m e) (inf false) h k = absurd (unfold lt in k)
over_below (fin s m e) (fin false n d) h k = absurd (apart (fin false n d) nought k (nat_above (fin false n d) tt))
over_below (fin s m e) (fin true n d) h k = go s h
  where
    y : Float
    y = fin true n d

    some : 0 < n * up d
    some =
        elim (here_or_on 0 (n * up d)) [
          | inl p ↦ p
          | inr p ↦ absurd (apart y nought k (sle→le nought y tt tt (omega (arith, p))))
        ]

    go : (s : Bool) → T (not (lt (fin s m e) nought)) → T (not (lt nought (div binary64 (fin s m e) y)))
    go false h =
        subst (λ (z : Float). T (not (lt nought z))) (sym (div_opened binary64 (fin false m e) y tt tt some))
        (not_T (lt nought (round binary64 true (m * up e * down d) (n * up d * down e))) (λ p. apart nought (round binary64 true (m * up e * down d) (n * up d * down e)) p (round_below binary64 (m * up e * down d) (n * up d * down e) (mul-pos some (down_pos e)))))
    go true h =
        let o = le→sle nought (fin true m e) tt tt (nlt→le (fin true m e) nought (unfold is_nan in tt) (unfold is_nan in tt) h) in
        let z : m * up e ≡ 0 = omega (arith, o) in
        subst (λ (z : Float). T (not (lt nought z))) (sym (div_opened binary64 (fin true m e) y tt tt some ∙ ap (λ (z : ℕ). round binary64 false (z * down d) (n * up d * down e)) z ∙ ap (λ (z : ℕ). round binary64 false z (n * up d * down e)) (zero-mul (down d)) ∙ zero_of binary64 false (n * up d * down e) (mul-pos some (down_pos e))))
        (unfold lt in tt)

-- a from 0 up times z not below 0
times_above : (a z : Float) → T (natural a) → T (not (lt z nought)) → T (not (lt (mul binary64 a z) nought))
times_above nan z p h = absurd p
times_above (inf s) z p h = absurd p
times_above (fin true m e) z p h = absurd p
times_above (fin false m e) nan p h = unfold mul lt in tt
times_above (fin false m e) (inf true) p h = absurd (unfold lt in h)
times_above (fin false m e) (inf false) p h = unfold mul lt in either (λ (v : Float). T (not (lt v nought))) (eqb m 0) nan (inf false) tt tt
times_above (fin false m e) (fin t n d) p h =
    let a = fin false m e in
    let z = fin t n d in
    let above = nlt→le z nought (unfold is_nan in tt) (unfold is_nan in tt) h in
    let k = subst (λ (v : Float). T (le v (mul binary64 z a))) (zero_times binary64 a tt) (mul_smono binary64 nought z a tt tt tt above) in
    not_T (lt (mul binary64 a z) nought) (λ l. apart (mul binary64 a z) nought l (subst (λ (v : Float). T (le nought v)) (mul_commute binary64 z a tt tt) k))

-- ---- the last term, (n (n + t)) / (n - 2 - t): no more than 0, or no number, where D is below 0. Here a is n and b is n - 2

abbrev minus_one : Float
minus_one = fin true 1 (pos 0)

cancelled : (add binary64 one minus_one ≡ nought) × (add binary64 minus_one (neg minus_one) ≡ nought)
unfolding add neg
cancelled = (refl, refl)

-- a finite t is then above -1
trace_above : (b t : Float) → T (finite b) → T (finite t) → T (le minus_one b) → T (lt (sub binary64 b t) nought) → T (le minus_one t)
trace_above b t p q h k =
    elim (le_total t minus_one (number_left t t (le_self t q)) (unfold is_nan in tt)) [
      | inl l ↦
          let m : T (le (add binary64 minus_one (neg minus_one)) (add binary64 b (neg t))) = add_mono binary64 minus_one b (neg minus_one) (neg t) tt p (unfold neg in tt) (neg_finite t q) h (neg_anti t minus_one l) in
          absurd (apart (sub binary64 b t) nought k (subst (λ (v : Float). T (le v (sub binary64 b t))) cancelled.1 (subst (λ (v : Float). T (le (add binary64 minus_one (neg minus_one)) v)) (sym (sub_opened binary64 b t)) m)))
      | inr l ↦ l
    ]

sum_above : (a b t : Float) → T (natural a) → T (le one a) → T (finite b) → T (le minus_one b) → T (lt (sub binary64 b t) nought) → T (not (lt (add binary64 a t) nought))
sum_above nan b t p i q h k = absurd p
sum_above (inf s) b t p i q h k = absurd p
sum_above (fin s m e) nan t p i q h k = absurd q
sum_above (fin s m e) (inf u) t p i q h k = absurd q
sum_above (fin s m e) (fin u n d) nan p i q h k = unfold add lt in tt
sum_above (fin s m e) (fin u n d) (inf true) p i q h k = absurd (unfold sub lt in k)
sum_above (fin s m e) (fin u n d) (inf false) p i q h k = unfold add lt in tt
sum_above (fin s m e) (fin u n d) (fin v o g) p i q h k =
    let a = fin s m e in
    let t = fin v o g in
    let l : T (le (add binary64 one minus_one) (add binary64 a t)) = add_mono binary64 one a minus_one t tt tt tt tt i (trace_above (fin u n d) t tt tt h k) in
    not_T (lt (add binary64 a t) nought) (λ j. apart (add binary64 a t) nought j (subst (λ (z : Float). T (le z (add binary64 a t))) cancelled.0 l))

term_below : (a b t : Float) → T (natural a) → T (le one a) → T (finite b) → T (le minus_one b) → T (lt (sub binary64 b t) nought)
    → T (not (lt nought (div binary64 (mul binary64 a (add binary64 a t)) (sub binary64 b t))))
term_below a b t p i q h k = over_below (mul binary64 a (add binary64 a t)) (sub binary64 b t) (times_above a (add binary64 a t) p (sum_above a b t p i q h k)) k

-- ---- the other two terms: finite, and their sum at most a bound

abbrev Within : Float → Float → Type 0
Within x X = T (finite x) × T (le (magnitude x) X)

times_within : (x y X Y : Float) → T (natural X) → T (natural Y) → T (natural (mul binary64 X Y)) → Within x X → Within y Y → Within (mul binary64 x y) (mul binary64 X Y)
times_within x y X Y n k j h i =
    let b : T (le (magnitude (mul binary64 x y)) (mul binary64 X Y)) = subst (λ (w : Float). T (le w (mul binary64 X Y))) (sym (mul_mag binary64 x y h.0 i.0)) (mul_nmono binary64 (magnitude x) X (magnitude y) Y (mag_nat x h.0) n (mag_nat y i.0) k h.1 i.1) in
    (mag_finite (mul binary64 x y) (mul binary64 X Y) j b, b)

count_within : (n : ℕ) → n ≤ 512 → Within (from_count n) (from_count 512)
count_within n h =
    let p = (count_natural n (omega arith)).0 in
    (nat_fin (from_count n) p, subst (λ (x : Float). T (le x (from_count 512))) (sym (mag_self (from_count n) p)) (count_order n 512 h))

-- 2n ln σ̂ and n ln 2π, of at most 512 and logarithms of at most 711
abbrev fit_most : Float
fit_most = mul binary64 (mul binary64 two64 (from_count 512)) (from_count 711)

abbrev constant_most : Float
constant_most = mul binary64 (from_count 512) (from_count 711)

count_most : T (natural (from_count 512)) × T (natural (from_count 711))
unfolding of_int
count_most = (tt, tt)

sum_most : T (finite (add binary64 (neg fit_most) (neg constant_most))) × T (finite (add binary64 fit_most constant_most))
unfolding add mul neg of_int of_bits
sum_most = (tt, tt)

fit_within : (n : ℕ) (l : Float) → n ≤ 512 → Within l (from_count 711) → Within (mul binary64 (mul binary64 two64 (from_count n)) l) fit_most
fit_within n l h i =
    let twice : T (natural (mul binary64 two64 (from_count 512))) = unfold mul of_int of_bits in tt in
    times_within (mul binary64 two64 (from_count n)) l (mul binary64 two64 (from_count 512)) (from_count 711) twice count_most.1 (unfold mul of_int of_bits in tt)
    (times_within two64 (from_count n) two64 (from_count 512) (unfold of_bits in tt) count_most.0 twice (unfold magnitude le of_bits in (tt, tt)) (count_within n h)) i

constant_within : (n : ℕ) (l : Float) → n ≤ 512 → Within l (from_count 711) → Within (mul binary64 (from_count n) l) constant_most
constant_within n l h i = times_within (from_count n) l (from_count 512) (from_count 711) count_most.0 count_most.1 (unfold mul of_int in tt) (count_within n h) i

added_within : (x y : Float) → Within x fit_most → Within y constant_most → T (finite (add binary64 x y)) × T (le (add binary64 x y) (add binary64 fit_most constant_most))
added_within x y h i =
    let a = mag_in x fit_most h.0 (unfold mul of_int of_bits in tt) h.1 in
    let b = mag_in y constant_most i.0 (unfold mul of_int in tt) i.1 in
    let high : T (le (add binary64 x y) (add binary64 fit_most constant_most)) = add_mono binary64 x fit_most y constant_most h.0 (unfold mul of_int of_bits in tt) i.0 (unfold mul of_int in tt) a.1 b.1 in
    let low : T (le (add binary64 (neg fit_most) (neg constant_most)) (add binary64 x y)) = add_mono binary64 (neg fit_most) x (neg constant_most) y (unfold neg mul of_int of_bits in tt) h.0 (unfold neg mul of_int in tt) i.0 a.0 b.0 in
    (in_fin (add binary64 (neg fit_most) (neg constant_most)) (add binary64 x y) (add binary64 fit_most constant_most) sum_most.0 sum_most.1 low high, high)

-- and so all three are never plus infinity
abbrev is_plus_infinity : Float → Bool
is_plus_infinity nan = false
is_plus_infinity (inf s) = not s
is_plus_infinity (fin s m e) = false

bounded : T (le (inf false) (add binary64 (add binary64 fit_most constant_most) nought)) → ⊥
unfolding le add mul of_int of_bits
bounded h = h

never_added : (s l : Float) → T (finite s) → T (le s (add binary64 fit_most constant_most)) → T (not (lt nought l)) → add binary64 s l ≡ inf false → ⊥
never_added nan l p h k e = p
never_added (inf t) l p h k e = p
never_added (fin t m d) nan p h k e = let i : nan ≡ inf false = unfold add in e in true≢false (sym (ap is_plus_infinity i))
never_added (fin t m d) (inf true) p h k e = let i : inf true ≡ inf false = unfold add in e in true≢false (sym (ap is_plus_infinity i))
never_added (fin t m d) (inf false) p h k e = absurd (unfold lt in k)
never_added (fin t m d) (fin u n g) p h k e =
    let s = fin t m d in
    let l = fin u n g in
    let most = add binary64 (add binary64 fit_most constant_most) nought in
    let j = add_mono binary64 s (add binary64 fit_most constant_most) l nought tt sum_most.1 tt tt h (nlt→le nought l (unfold is_nan in tt) (unfold is_nan in tt) k) in
    bounded (subst (λ (z : Float). T (le z most)) e j)

-- ---- n - 2 of a count from 1 to 512

less_two : (n : ℕ) → 1 ≤ n → n ≤ 512 → T (finite (sub binary64 (from_count n) two64)) × T (le minus_one (sub binary64 (from_count n) two64))
less_two n some few =
    let p = nat_fin (from_count n) (count_natural n (omega arith)).0 in
    let least : T (le (add binary64 (from_count 1) (neg two64)) (add binary64 (from_count n) (neg two64))) = add_mono binary64 (from_count 1) (from_count n) (neg two64) (neg two64) (unfold of_int in tt) p (unfold neg of_bits in tt) (unfold neg of_bits in tt) (count_order 1 n some) (unfold le neg of_bits in tt) in
    let most : T (le (add binary64 (from_count n) (neg two64)) (add binary64 (from_count 512) (neg two64))) = add_mono binary64 (from_count n) (from_count 512) (neg two64) (neg two64) p (nat_fin (from_count 512) count_most.0) (unfold neg of_bits in tt) (unfold neg of_bits in tt) (count_order n 512 few) (unfold le neg of_bits in tt) in
    let low : T (le minus_one (add binary64 (from_count n) (neg two64))) = le_tr minus_one (add binary64 (from_count 1) (neg two64)) (add binary64 (from_count n) (neg two64)) (unfold le add neg of_int of_bits in tt) least in
    subst (λ (z : Float). T (finite z) × T (le minus_one z)) (sym (sub_opened binary64 (from_count n) two64))
    (in_fin minus_one (add binary64 (from_count n) (neg two64)) (add binary64 (from_count 512) (neg two64)) tt (unfold add neg of_int of_bits in tt) low most, low)

-- ---- the formula, of a σ̂ whose logarithm has its steps
pub never_infinite : (n : ℕ) (sigma trace : Float) → 1 ≤ n → n ≤ 512 → LnFinite sigma → T (lt (freedom rounded (from_count n) trace) nought)
    → aicc_formula rounded pi64 lnv (from_count n) sigma trace ≡ inf false → ⊥
unfolding aicc_formula freedom
never_infinite n sigma trace some few ln h e =
    let nf = from_count n in
    let b = less_two n some few in
    let s = added_within (mul binary64 (mul binary64 two64 nf) (lnv sigma)) (mul binary64 nf (lnv (mul binary64 two64 pi64))) (fit_within n (lnv sigma) few ln.answer) (constant_within n (lnv (mul binary64 two64 pi64)) few ln_two_pi.answer) in
    never_added _ _ s.0 s.1
    (term_below nf (sub binary64 nf two64) trace (count_natural n (omega arith)).0 (le_tr one (from_count 1) nf (unfold le of_int in tt) (count_order 1 n some)) b.0 b.1 h)
    e
