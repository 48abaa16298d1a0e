-- ln of a positive normal v: every step is finite. m is from 1 to 2 and, halved where it is 1.5 or more, from 3/4 to 3/2; |z| is at most 1/4, w from 0 to 1/16, s from 1 to 33/32, and the answer at most 711 in size. Assumes nothing.
use Rattle.std.proofs.Common.{◌≡◌, ℕ, zero, suc, ◌+◌, ◌-◌, ◌*◌, ◌/◌, ◌%◌, ◌^◌, ◌<◌, ◌≤◌, Bool, true, false, cond, not, ◌&&◌, T, List, [], ◌∷◌, ℤ, pos, negsuc, sym, refl, ap, ◌∙◌, subst, inl, inr, le_trans, le_of_eq, mul-le-mul_right, mul_assoc, mul_comm, mul-le-mul_left, mul-pos, mul_left_comm, arith, lit<, le-leb}
use borrow.Author.Tests.{lt-leb}
use lib.Ieee.{Float, nan, inf, fin, binary64, add, sub, mul, div, neg, lt, le, of_int, of_bits, to_bits, fits, round, minus, is_nan}
use lib.Ieee.Fits.{and_l, and_r}
use lib.Ieee.Bits.{is_true}
use lib.Ieee.Order.{le_of_values, round_mono}
use lib.Ieee.Scale.{finite}
use lib.Ieee.Positive.{num, den, den_pos, positive, own_value, value_pos, between}
use Rattle.real.specs.Reals.{magnitude, least_normal}
use Rattle.real.proofs.Closed.{one, half, nought, two}
use Rattle.real.proofs.SignedOrder.{sgn, le→sle, le_tr, le_total, natural, nat_fin, nat_sgn, sgn_natural, nat_above, add_mono, sub_opened, neg_finite, mul_by, mul_smono, mul_nmono, mul_mag, div_by, div_smono, div_mag, mag_in, mag_of, mag_finite, mag_self, mag_nat, in_fin, above_nat, le_self, round_mag, round_sgn, square_mag, here_or_on}
use Rattle.exponent_table.specs.Reduction.{HI, LO}
use Rattle.exponent_table.proofs.Tests.{allb, All, all→}
use Rattle.elementary.specs.Ln.{three_halves, mantissa, exponent, ln_step, ln_steps, ln_series, z_of, w_of, ln_split, ln_parts, lnv}
use Rattle.elementary.specs.LnSteps.{SplitAs, StepsFinite, SplitFinite, LnFinite}
use Rattle.elementary.proofs.SplitExact.{split_exact}

-- ---- the bounds: 1/4, 1/16, 33/32 and 711
abbrev quarter : Float
quarter = fin false 1 (negsuc 1)

abbrev sixteenth : Float
sixteenth = fin false 1 (negsuc 3)

abbrev series_most : Float
series_most = fin false 33 (negsuc 4)

abbrev ln_most : Float
ln_most = fin false 711 (pos 0)

-- ---- laws that SignedOrder lacks
num_of : (x : Float) → T (positive x) → 0 < num x
num_of x p = value_pos x (num x) (den x) p (den_pos x) (own_value x p)

positive_nat : (x : Float) → T (positive x) → T (natural x)
positive_nat nan p = absurd p
positive_nat (inf s) p = absurd p
positive_nat (fin true m e) p = absurd p
positive_nat (fin false m e) p = tt

-- the order of two values with the sign clear
plain : (x y : Float) → T (natural x) → T (natural y) → T (le x y) → num x * den y ≤ num y * den x
plain nan y p q h = absurd p
plain (inf s) y p q h = absurd p
plain (fin true m e) y p q h = absurd p
plain (fin false m e) nan p q h = absurd q
plain (fin false m e) (inf s) p q h = absurd q
plain (fin false m e) (fin true n d) p q h = absurd q
plain (fin false m e) (fin false n d) p q h = let o = le→sle (fin false m e) (fin false n d) tt tt h in omega arith

-- a quotient falls as its divisor grows
div_anti : (x y y' : Float) → T (natural x) → T (positive y) → T (positive y') → T (le y' y) → T (le (div binary64 x y) (div binary64 x y'))
div_anti x y y' n p p' h =
    let o = plain y' y (positive_nat y' p') (positive_nat y p) h in
    subst (λ (t : Float). T (le t (div binary64 x y'))) (sym (div_by binary64 x y (nat_fin x n) (positive_nat y p) (num_of y p) ∙ ap (λ (b : Bool). round binary64 b (num x * den y) (num y * den x)) (nat_sgn x n)))
    (subst (λ (t : Float). T (le (round binary64 false (num x * den y) (num y * den x)) t)) (sym (div_by binary64 x y' (nat_fin x n) (positive_nat y' p') (num_of y' p') ∙ ap (λ (b : Bool). round binary64 b (num x * den y') (num y' * den x)) (nat_sgn x n)))
    (round_mono binary64 (num x * den y) (num y * den x) (num x * den y') (num y' * den x) (mul-pos (num_of y p) (den_pos x)) (mul-pos (num_of y' p') (den_pos x))
    (crossed (num x) (den x) (num y) (den y) (num y') (den y') o)))
  where
    crossed : (a b c d c' d' : ℕ) → c' * d ≤ c * d' → a * d * (c' * b) ≤ a * d' * (c * b)
    crossed a b c d c' d' k = le_trans (le_of_eq (turned a b c' d)) (le_trans (mul-le-mul_left (a * b) k) (le_of_eq (sym (turned a b c d'))))
      where
        turned : (a b c d : ℕ) → a * d * (c * b) ≡ a * b * (c * d)
        turned a b c d = simp (mul_assoc, mul_comm, mul_left_comm)

-- a product of two values with the sign clear has it clear too
mul_nat : (x y Z : Float) → T (natural x) → T (natural y) → T (natural Z) → T (le (mul binary64 x y) Z) → T (natural (mul binary64 x y))
mul_nat x y Z n k N h =
    let e = mul_by binary64 x y (nat_fin x n) k in
    let s = ap sgn e ∙ round_sgn binary64 (sgn x) (num x * num y) (den x * den y) ∙ nat_sgn x n in
    sgn_natural (mul binary64 x y) (mag_finite (mul binary64 x y) Z N (subst (λ (t : Float). T (le t Z)) (sym (mul_mag binary64 x y (nat_fin x n) (nat_fin y k) ∙ ap (λ (t : Float). mul binary64 t (magnitude y)) (mag_self x n) ∙ ap (mul binary64 x) (mag_self y k))) h)) s

-- |x + y| ≤ X + Y
add_mag : (x y X Y : Float) → T (finite x) → T (finite y) → T (natural X) → T (natural Y) → T (natural (add binary64 X Y)) → T (le (neg (add binary64 X Y)) (add binary64 (neg X) (neg Y))) → T (le (magnitude x) X) → T (le (magnitude y) Y)
    → T (finite (add binary64 x y)) × T (le (magnitude (add binary64 x y)) (add binary64 X Y))
add_mag x y X Y fx fy NX NY NS ends hx hy =
    let a = mag_in x X fx NX hx in
    let b = mag_in y Y fy NY hy in
    let S = add binary64 X Y in
    let low = le_tr (neg S) (add binary64 (neg X) (neg Y)) (add binary64 x y) ends (add_mono binary64 (neg X) x (neg Y) y (neg_finite X (nat_fin X NX)) fx (neg_finite Y (nat_fin Y NY)) fy a.0 b.0) in
    let high = add_mono binary64 x X y Y fx (nat_fin X NX) fy (nat_fin Y NY) a.1 b.1 in
    let f = in_fin (neg S) (add binary64 x y) S (neg_finite S (nat_fin S NS)) (nat_fin S NS) low high in
    (f, mag_of (add binary64 x y) S f NS low high)

-- |x·y| ≤ X·Y
mul_mags : (x y X Y : Float) → T (finite x) → T (finite y) → T (natural X) → T (natural Y) → T (natural (mul binary64 X Y)) → T (le (magnitude x) X) → T (le (magnitude y) Y)
    → T (finite (mul binary64 x y)) × T (le (magnitude (mul binary64 x y)) (mul binary64 X Y))
mul_mags x y X Y fx fy NX NY NM hx hy =
    let h = subst (λ (t : Float). T (le t (mul binary64 X Y))) (sym (mul_mag binary64 x y fx fy)) (mul_nmono binary64 (magnitude x) X (magnitude y) Y (mag_nat x fx) NX (mag_nat y fy) NY hx hy) in
    (mag_finite (mul binary64 x y) (mul binary64 X Y) NM h, h)

-- ---- the series on 0 ≤ w ≤ 1/16
abbrev term : ℕ → Float
term j = div binary64 one (of_int binary64 (pos j))

abbrev floor_of : ℕ → Float
floor_of j = add binary64 (term j) nought

abbrev roof : Float → ℕ → Float
roof hi j = add binary64 (term j) (mul binary64 sixteenth hi)

abbrev step_tests : Float → ℕ → List Bool
step_tests hi j = natural (term j) ∷ natural (mul binary64 sixteenth hi) ∷ positive (floor_of j) ∷ natural (roof hi j) ∷ []

step_is : (w s : Float) (j : ℕ) → ln_step w s j ≡ add binary64 (term j) (mul binary64 w s)
unfolding ln_step of_bits
step_is w s j = refl

module _ (w : Float) (nw : T (natural w)) (hw : T (le w sixteenth)) where
  module _ (hi s : Float) (j : ℕ) (ok : All (step_tests hi j)) (Nh : T (natural hi)) (ns : T (natural s)) (hs : T (le s hi)) where
    product_high : T (le (mul binary64 w s) (mul binary64 sixteenth hi))
    product_high = mul_nmono binary64 w sixteenth s hi nw tt ns Nh hw hs

    product_nat : T (natural (mul binary64 w s))
    product_nat = mul_nat w s (mul binary64 sixteenth hi) nw ns ok.1.0 product_high

    step_low : T (le (floor_of j) (ln_step w s j))
    step_low =
        subst (λ (t : Float). T (le (floor_of j) t)) (sym (step_is w s j))
        (add_mono binary64 (term j) (term j) nought (mul binary64 w s) (nat_fin (term j) ok.0) (nat_fin (term j) ok.0) tt (nat_fin (mul binary64 w s) product_nat) (le_self (term j) (nat_fin (term j) ok.0)) (nat_above (mul binary64 w s) product_nat))

    step_high : T (le (ln_step w s j) (roof hi j))
    step_high =
        subst (λ (t : Float). T (le t (roof hi j))) (sym (step_is w s j))
        (add_mono binary64 (term j) (term j) (mul binary64 w s) (mul binary64 sixteenth hi) (nat_fin (term j) ok.0) (nat_fin (term j) ok.0) (nat_fin (mul binary64 w s) product_nat) (nat_fin (mul binary64 sixteenth hi) ok.1.0) (le_self (term j) (nat_fin (term j) ok.0)) product_high)

    step_nat : T (natural (ln_step w s j))
    step_nat = above_nat (floor_of j) (ln_step w s j) (roof hi j) ok.1.1.0 (nat_fin (roof hi j) ok.1.1.1.0) step_low step_high

  abbrev steps_ok : ℕ → Float → Float → Bool
  steps_ok zero l hi = le one l && le hi series_most
  steps_ok (suc n) l hi = allb (step_tests hi (2 * n + 1)) && steps_ok n (floor_of (2 * n + 1)) (roof hi (2 * n + 1))

  record Through (n : ℕ) (s : Float) : Type 0 where
    each : StepsFinite n w s
    low : T (le one (ln_steps n w s))
    high : T (le (ln_steps n w s) series_most)

  steps_in : (n : ℕ) (l hi s : Float) → T (steps_ok n l hi) → T (natural hi) → T (natural s) → T (le l s) → T (le s hi) → Through n s
  unfolding ln_steps of_bits
  steps_in zero l hi s ok Nh ns hl hs =
      record { each = nat_fin s ns; low = le_tr one l s (and_l (le one l) (le hi series_most) ok) hl; high = le_tr s hi series_most hs (and_r (le one l) (le hi series_most) ok) }
  steps_in (suc n) l hi s ok Nh ns hl hs =
      let j = 2 * n + 1 in
      let more = steps_ok n (floor_of j) (roof hi j) in
      let c = all→ (step_tests hi j) (and_l (allb (step_tests hi j)) more ok) in
      let r = steps_in n (floor_of j) (roof hi j) (ln_step w s j) (and_r (allb (step_tests hi j)) more ok) c.1.1.1.0 (step_nat hi s j c Nh ns hs) (step_low hi s j c Nh ns hs) (step_high hi s j c Nh ns hs) in
      record { each = (nat_fin s ns, nat_fin (term j) c.0, nat_fin (mul binary64 w s) (product_nat hi s j c Nh ns hs), r.each); low = r.low; high = r.high }

  eleven : T (steps_ok 11 (term 23) (term 23)) × T (natural (term 23))
  unfolding add mul div of_int le
  eleven = (tt, tt)

  series_in : Through 11 (term 23)
  series_in = steps_in 11 (term 23) (term 23) (term 23) eleven.0 eleven.1 eleven.1 (le_self (term 23) (nat_fin (term 23) eleven.1)) (le_self (term 23) (nat_fin (term 23) eleven.1))

series_is : (w : Float) → ln_series w ≡ ln_steps 11 w (term 23)
unfolding ln_series of_bits
series_is w = refl

-- ---- the answer's parts, by closed bounds
abbrev exponents : Float
exponents = fin false 1 (pos 10)

abbrev P2 : Float
P2 = mul binary64 (mul binary64 two quarter) series_most

abbrev PH : Float
PH = mul binary64 exponents HI

abbrev PL : Float
PL = mul binary64 exponents LO

abbrev PI : Float
PI = add binary64 P2 PL

abbrev PA : Float
PA = add binary64 PH PI

abbrev closed_tests : List Bool
closed_tests =
    natural (mul binary64 two quarter) ∷ natural P2 ∷ natural HI ∷ natural LO ∷ natural PH ∷ natural PL ∷ natural PI ∷ natural PA
    ∷ le (neg PI) (add binary64 (neg P2) (neg PL)) ∷ le (neg PA) (add binary64 (neg PH) (neg PI)) ∷ le PA ln_most
    ∷ le (magnitude two) two ∷ le (magnitude HI) HI ∷ le (magnitude LO) LO ∷ natural (mul binary64 quarter quarter) ∷ le (mul binary64 quarter quarter) sixteenth ∷ []

closed_test : T (allb closed_tests)
unfolding add mul neg le magnitude of_bits
closed_test = tt

closed : All closed_tests
closed = all→ closed_tests closed_test

split_is : (m e : Float) → ln_split m e ≡ add binary64 (mul binary64 e HI) (add binary64 (mul binary64 (mul binary64 two (z_of m)) (ln_series (w_of m))) (mul binary64 e LO))
unfolding ln_split of_bits
split_is m e = refl

-- ---- m from lo to hi, with |m - 1| ≤ A and m + 1 ≥ L
abbrev interval_tests : Float → Float → Float → Float → List Bool
interval_tests lo hi A L =
    finite lo ∷ finite hi ∷ natural A ∷ finite (sub binary64 lo one) ∷ finite (sub binary64 hi one) ∷ le (neg A) (add binary64 lo (neg one)) ∷ le (add binary64 hi (neg one)) A
    ∷ positive L ∷ le L (add binary64 lo one) ∷ positive (add binary64 hi one) ∷ finite (div binary64 A L) ∷ le (div binary64 A L) quarter ∷ []

module _ (lo hi A L : Float) (ok : All (interval_tests lo hi A L)) (m e : Float) (low : T (le lo m)) (high : T (le m hi)) (fe : T (finite e)) (he : T (le (magnitude e) exponents)) where
  fin_m : T (finite m)
  fin_m = in_fin lo m hi ok.0 ok.1.0 low high

  less_low : T (le (neg A) (sub binary64 m one))
  less_low =
      subst (λ (t : Float). T (le (neg A) t)) (sym (sub_opened binary64 m one))
      (le_tr (neg A) (add binary64 lo (neg one)) (add binary64 m (neg one)) ok.1.1.1.1.1.0
      (add_mono binary64 lo m (neg one) (neg one) ok.0 fin_m (neg_finite one tt) (neg_finite one tt) low (le_self (neg one) (neg_finite one tt))))

  less_high : T (le (sub binary64 m one) A)
  less_high =
      subst (λ (t : Float). T (le t A)) (sym (sub_opened binary64 m one))
      (le_tr (add binary64 m (neg one)) (add binary64 hi (neg one)) A
      (add_mono binary64 m hi (neg one) (neg one) fin_m ok.1.0 (neg_finite one tt) (neg_finite one tt) high (le_self (neg one) (neg_finite one tt))) ok.1.1.1.1.1.1.0)

  nat-A : T (natural A)
  nat-A = ok.1.1.0

  fin_less : T (finite (sub binary64 m one))
  fin_less = in_fin (neg A) (sub binary64 m one) A (neg_finite A (nat_fin A nat-A)) (nat_fin A nat-A) less_low less_high

  pos-L : T (positive L)
  pos-L = ok.1.1.1.1.1.1.1.0

  more_low : T (le L (add binary64 m one))
  more_low = le_tr L (add binary64 lo one) (add binary64 m one) ok.1.1.1.1.1.1.1.1.0 (add_mono binary64 lo m one one ok.0 fin_m tt tt low (le_self one tt))

  more_positive : T (positive (add binary64 m one))
  more_positive = between L (add binary64 m one) (add binary64 hi one) pos-L ok.1.1.1.1.1.1.1.1.1.0 more_low (add_mono binary64 m hi one one fin_m ok.1.0 tt tt high (le_self one tt))

  z_mag : T (le (magnitude (z_of m)) quarter)
  unfolding of_bits
  z_mag =
      let a = sub binary64 m one in
      let b = add binary64 m one in
      let nb = positive_nat b more_positive in
      let na = mag_nat a fin_less in
      subst (λ (t : Float). T (le t quarter)) (sym (div_mag binary64 a b fin_less nb (num_of b more_positive)))
      (le_tr (div binary64 (magnitude a) b) (div binary64 A b) quarter
      (div_smono binary64 (magnitude a) A b (nat_fin (magnitude a) na) (nat_fin A nat-A) nb (num_of b more_positive) (mag_of a A fin_less nat-A less_low less_high))
      (le_tr (div binary64 A b) (div binary64 A L) quarter (div_anti A b L nat-A more_positive pos-L more_low) ok.1.1.1.1.1.1.1.1.1.1.1.0))

  z_fin : T (finite (z_of m))
  z_fin = mag_finite (z_of m) quarter tt z_mag

  split_finite : SplitFinite m e
  unfolding of_bits round of_int
  split_finite =
      let c5 = closed.1.1.1.1.1 in
      let c10 = c5.1.1.1.1.1 in
      let z = z_of m in
      let w = w_of m in
      let q = square_mag binary64 z quarter z_fin tt c10.1.1.1.1.0 z_mag in
      let w-top = le_tr w (mul binary64 quarter quarter) sixteenth q.1 c10.1.1.1.1.1.0 in
      let t = series_in w q.0 w-top in
      let s = ln_series w in
      let s1 : T (le one s) = subst (λ (x : Float). T (le one x)) (sym (series_is w)) t.low in
      let s2 : T (le s series_most) = subst (λ (x : Float). T (le x series_most)) (sym (series_is w)) t.high in
      let ns : T (natural s) = above_nat one s series_most tt tt s1 s2 in
      let z2 = mul_mags two z two quarter tt z_fin tt tt closed.0 c10.1.0 z_mag in
      let pr = mul_mags (mul binary64 two z) s (mul binary64 two quarter) series_most z2.0 (nat_fin s ns) closed.0 tt closed.1.0 z2.1 (subst (λ (x : Float). T (le x series_most)) (sym (mag_self s ns)) s2) in
      let eh = mul_mags e HI exponents HI fe (nat_fin HI closed.1.1.0) tt closed.1.1.0 closed.1.1.1.1.0 he c10.1.1.0 in
      let el = mul_mags e LO exponents LO fe (nat_fin LO closed.1.1.1.0) tt closed.1.1.1.0 c5.0 he c10.1.1.1.0 in
      let inn = add_mag (mul binary64 (mul binary64 two z) s) (mul binary64 e LO) P2 PL pr.0 el.0 closed.1.0 c5.0 c5.1.0 c5.1.1.1.0 pr.1 el.1 in
      let ans = add_mag (mul binary64 e HI) (add binary64 (mul binary64 (mul binary64 two z) s) (mul binary64 e LO)) PH PI eh.0 inn.0 closed.1.1.1.1.0 c5.1.0 c5.1.1.0 c5.1.1.1.1.0 eh.1 inn.1 in
      record {
        ends = (fin_less, nat_fin (add binary64 m one) (positive_nat (add binary64 m one) more_positive));
        z = (z_fin, z_mag);
        w = (nat_fin w q.0, nat_above w q.0, w-top);
        steps = t.each;
        s = (s1, s2);
        twice = z2.0;
        product = pr.0;
        parts = (eh.0, el.0);
        inner = inn.0;
        answer =
            subst (λ (x : Float). T (finite x) × T (le (magnitude x) ln_most)) (sym (split_is m e))
            (ans.0, le_tr (magnitude (add binary64 (mul binary64 e HI) (add binary64 (mul binary64 (mul binary64 two z) s) (mul binary64 e LO)))) PA ln_most ans.1 c10.0);
      }

-- ---- the two intervals
lower_tests : T (allb (interval_tests one three_halves half two))
unfolding add sub div neg le
lower_tests = tt

upper_tests : T (allb (interval_tests (fin false 3 (negsuc 1)) one quarter (fin false 7 (negsuc 1))))
unfolding add sub div neg le
upper_tests = tt

-- ---- m and e
one_two : (n : ℕ) → 2 ^ 52 ≤ n → n < 2 ^ 53 → (1 * 2 ^ 52 ≤ n * 1) × (n * 1 ≤ 2 * 2 ^ 52)
one_two n a b = (omega arith, omega arith)

abbrev widest : Float
widest = fin false 1023 (pos 0)

widest_is : round binary64 false 1023 1 ≡ widest
unfolding round
widest_is = refl

bounded : (s : Bool) (n : ℕ) → n ≤ 1023 → T (le (magnitude (round binary64 s n 1)) widest)
bounded s n h =
    subst (λ (t : Float). T (le t widest)) (sym (round_mag binary64 s n 1))
    (subst (λ (t : Float). T (le (round binary64 false n 1) t)) widest_is (round_mono binary64 n 1 1023 1 (lit< tt) (lit< tt) (mul-le-mul_right 1 h)))

exponent_in : (x : ℕ) → 1 ≤ x → x ≤ 2046 → T (le (magnitude (of_int binary64 (minus x 1023))) widest)
unfolding of_int
exponent_in x a b =
    elim (here_or_on x 1023) [
      | inl h ↦ rw (lt-leb 1023 x h) (bounded true (suc (1023 - suc x)) (omega arith))
      | inr h ↦ rw (le-leb 1023 x h) (bounded false (x - 1023) (omega arith))
    ]

abbrev raised_tests : List Bool
raised_tests =
    natural (add binary64 widest one) ∷ le (neg (add binary64 widest one)) (add binary64 (neg widest) (neg one)) ∷ le (add binary64 widest one) exponents ∷ le widest exponents
    ∷ le (magnitude one) one ∷ finite (mul binary64 one half) ∷ finite (mul binary64 two half) ∷ le (fin false 3 (negsuc 1)) (mul binary64 three_halves half) ∷ le (mul binary64 two half) one ∷ []

raised_test : T (allb raised_tests)
unfolding add mul neg le magnitude
raised_test = tt

number : (x : Float) → T (finite x) → T (not (is_nan x))
unfolding is_nan
number nan p = absurd p
number (inf s) p = absurd p
number (fin s m e) p = tt

module _ (v : Float) (F : T (fits binary64 v)) (low : T (le least_normal v)) (high : T (lt v (inf false))) where
  abbrev split : SplitAs v (2 ^ 52 + to_bits binary64 v % 2 ^ 52) (to_bits binary64 v / 2 ^ 52)
  split = split_exact v F low high

  abbrev tests : All raised_tests
  tests = all→ raised_tests raised_test

  m_low : T (le one (mantissa v))
  m_low = le_of_values one (mantissa v) 1 1 (2 ^ 52 + to_bits binary64 v % 2 ^ 52) (2 ^ 52) (lit< tt) (lit< tt) (refl, refl) split.mantissa_is (one_two _ split.digits.0 split.digits.1).0

  m_high : T (le (mantissa v) two)
  m_high = le_of_values (mantissa v) two (2 ^ 52 + to_bits binary64 v % 2 ^ 52) (2 ^ 52) 2 1 (lit< tt) (lit< tt) split.mantissa_is (refl, refl) (one_two _ split.digits.0 split.digits.1).1

  m_fin : T (finite (mantissa v))
  m_fin = in_fin one (mantissa v) two tt tt m_low m_high

  abbrev e_of : Float
  e_of = of_int binary64 (exponent v)

  e_in : T (le (magnitude e_of) widest)
  e_in = subst (λ (z : ℤ). T (le (magnitude (of_int binary64 z)) widest)) (sym split.exponent_is) (exponent_in (to_bits binary64 v / 2 ^ 52) split.field.0 split.field.1)

  e_fin : T (finite e_of)
  e_fin = mag_finite e_of widest tt e_in

  e_raised : T (finite (add binary64 e_of one)) × T (le (magnitude (add binary64 e_of one)) (add binary64 widest one))
  e_raised = add_mag e_of one widest one e_fin tt tt tt tests.0 tests.1.0 e_in tests.1.1.1.1.0

  halved_fin : T (finite (mul binary64 (mantissa v) half))
  halved_fin =
      in_fin (mul binary64 one half) (mul binary64 (mantissa v) half) (mul binary64 two half) tests.1.1.1.1.1.0 tests.1.1.1.1.1.1.0
      (mul_smono binary64 one (mantissa v) half tt m_fin tt m_low) (mul_smono binary64 (mantissa v) two half m_fin tt tt m_high)

  upper_split : T (le three_halves (mantissa v)) → SplitFinite (mul binary64 (mantissa v) half) (add binary64 e_of one)
  unfolding of_bits
  upper_split h =
      let m = mul binary64 (mantissa v) half in
      let t = tests.1.1.1.1.1.1.1 in
      split_finite (fin false 3 (negsuc 1)) one quarter (fin false 7 (negsuc 1)) (all→ (interval_tests (fin false 3 (negsuc 1)) one quarter (fin false 7 (negsuc 1))) upper_tests) m (add binary64 e_of one)
      (le_tr (fin false 3 (negsuc 1)) (mul binary64 three_halves half) m t.0 (mul_smono binary64 three_halves (mantissa v) half tt m_fin tt h))
      (le_tr m (mul binary64 two half) one (mul_smono binary64 (mantissa v) two half m_fin tt tt m_high) t.1.0)
      e_raised.0 (le_tr (magnitude (add binary64 e_of one)) (add binary64 widest one) exponents e_raised.1 tests.1.1.0)

  lower_split : T (not (le three_halves (mantissa v))) → SplitFinite (mantissa v) e_of
  unfolding of_bits
  lower_split h =
      split_finite one three_halves half two (all→ (interval_tests one three_halves half two) lower_tests) (mantissa v) e_of m_low
      (elim (le_total (mantissa v) three_halves (number (mantissa v) m_fin) (number three_halves tt)) [
        | inl k ↦ k
        | inr k ↦ absurd (subst (λ (b : Bool). T (not b)) (is_true (le three_halves (mantissa v)) k) h)
      ])
      e_fin (le_tr (magnitude e_of) widest exponents e_in tests.1.1.1.0)

  answer_of : T (finite (lnv v)) × T (le (magnitude (lnv v)) ln_most)
  unfolding lnv ln_parts of_bits
  answer_of = rw (is_true (le least_normal v) low, is_true (lt v (inf false)) high) (go (le three_halves (mantissa v)) (λ t. upper_split t) (λ t. lower_split t))
    where
      go : (b : Bool) → (T b → SplitFinite (mul binary64 (mantissa v) half) (add binary64 e_of one)) → (T (not b) → SplitFinite (mantissa v) e_of)
          → (let x = cond b (ln_split (mul binary64 (mantissa v) half) (add binary64 e_of one)) (ln_split (mantissa v) e_of) in T (finite x) × T (le (magnitude x) ln_most))
      go true f g = (f tt).answer
      go false f g = (g tt).answer

  -- every step of ln is finite
  pub ln_finite : LnFinite v
  unfolding of_bits round of_int
  ln_finite =
      record {
        m = (m_fin, m_low, m_high);
        e = e_fin;
        halved = halved_fin;
        raised = e_raised.0;
        upper = upper_split;
        lower = lower_split;
        answer = answer_of;
      }
