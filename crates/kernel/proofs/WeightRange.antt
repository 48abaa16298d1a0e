-- Every weight of a distance that is not negative lies from 0 to 1, a distance of 0 weighs 1, and a sum of weights is finite, and above 0 where one of them is. Assumes nothing.
use mathlib.Core.Path.{◌≡◌, refl, sym, ap, ◌∙◌, subst}
use mathlib.Core.Logic.{inl, inr}
use Prim.Native.Nat.{ℕ, zero, suc, ◌+◌, ◌*◌, ◌%◌, ◌^◌, ◌≤◌, ◌<◌, zero-le}
use native.Mathlib.Nat.{le_trans, le_refl, le_of_lt, le_of_eq, le-suc, mul-one, one-mul, mul-pos, mul_left_comm, zero-mul, eq-or-lt_of_le, le_of_suc-le-suc, not-suc-le-zero}
use native.Mathlib.Omega.{arith}
use mathlib.Core.Bool.{Bool, true, false, not, ◌&&◌, ◌||◌, cond}
use lib.Arith.{le-zero}
use lib.IntN.{ℤ, pos}
use lib.Dec.{T, leb, ltb, eqb, ltb→lt, lt→ltb, lit<}
use lib.Ieee.{Float, nan, inf, fin, binary64, up, down, add, mul, div, sub, neg, lt, le, eq, of_bits, of_int, round, fits, unlike}
use lib.Ieee.Bits.{is_true}
use lib.Ieee.Fits.{and_l, and_r, div-fits, mul-fits, cond-fits}
use lib.Ieee.Order.{round_mono}
use lib.Ieee.Scale.{finite, round_same}
use lib.Ieee.Positive.{num, den, den_pos}
use Rattle.real.specs.Reals.{zero64, one64, magnitude}
use Rattle.real.specs.Arithmetic.{rounded}
use Rattle.real.proofs.Closed.{one, half, nought}
use Rattle.real.proofs.Values.{plus_nought, nought_plus}
use Rattle.real.proofs.SignedOrder.{sgn, le_tr, neg_anti, natural, nat_fin, nat_sgn, add_mono, mul_opened, div_by, div_smono, mag_of, mag_finite, in_fin, lt→le, le_self, sub_opened, neg_finite, zero_of, zero_over, round_sgn, round_mag, round_below, square_mag, nat_above, number_left, lt_of_not_le, apart}
use Rattle.elementary.specs.Exp.{expv}
use Rattle.elementary.proofs.ExpRange.{exp_in, exp_fits}
use Rattle.kernel.specs.declared.GwrKernel.{GwrKernel}
use Rattle.kernel.specs.declared.GwrKernel.TheVariants.{Gaussian, Bisquare, Exponential}
use Rattle.kernel.specs.Published.{gaussian_formula, bisquare_formula, exponential_formula, kernel_formula}
use Rattle.kernel.specs.Weight.{unusable, weight_of, FromZeroToOne}

-- ---- the definitions with their constants computed

-- the weight under a bandwidth that is finite and above 0
abbrev pub kernel_weight : GwrKernel → Float → Float → Float
kernel_weight k d b = kernel_formula rounded expv (λ x. x) k d b

abbrev usable : Float → Bool
usable b = finite b && lt nought b

gaussian_is : (d b : Float) → gaussian_formula rounded expv d b ≡ (let r = div binary64 d b in expv (mul binary64 (mul binary64 (neg half) r) r))
unfolding gaussian_formula of_bits
gaussian_is d b = refl

bisquare_is : (d b : Float) → bisquare_formula rounded d b ≡ cond (lt d b) (let r = div binary64 d b in let t = sub binary64 one (mul binary64 r r) in mul binary64 t t) nought
unfolding bisquare_formula of_bits
bisquare_is d b = refl

exponential_is : (d b : Float) → exponential_formula rounded expv d b ≡ expv (div binary64 (neg d) b)
unfolding exponential_formula
exponential_is d b = refl

weight_is : (k : GwrKernel) (d b : Float) → weight_of k d b ≡ cond (unusable b) (cond (eq d nought) one nought) (kernel_weight k d b)
unfolding weight_of of_bits
weight_is k d b = refl

abbrev In01 : Float → Type 0
In01 x = T (le nought x) × T (le x one)

-- ---- a bandwidth in use: finite, its sign clear, not 0
pub usable_of : (b : Float) → T (not (unusable b)) → T (usable b)
unfolding unusable of_bits
usable_of b h = go (finite b) (le b nought) refl refl h
  where
    go : (f l : Bool) → finite b ≡ f → le b nought ≡ l → T (not (not f || l)) → T (f && lt nought b)
    go false l p q t = absurd t
    go true true p q t = absurd t
    go true false p q t = lt_of_not_le nought b tt (subst T (sym p) tt) (λ (h : T (le b nought)). subst T q h)

usable_nat : (b : Float) → T (usable b) → T (natural b)
unfolding lt
usable_nat nan t = absurd t
usable_nat (inf s) t = absurd t
usable_nat (fin true n d) t = absurd t
usable_nat (fin false n d) t = tt

usable_pos : (b : Float) → T (usable b) → 0 < num b
unfolding lt
usable_pos nan t = absurd t
usable_pos (inf s) t = absurd t
usable_pos (fin true n d) t = absurd t
usable_pos (fin false n d) t = let h = ltb→lt (0 * down d) (n * up d * 1) t in let k = mul-one (n * up d) in omega arith

minus_nought : T (le (neg nought) nought) × T (le (neg one) nought)
unfolding le neg
minus_nought = (tt, tt)

-- ---- the exponential kernel's argument
arg_exponential : (d b : Float) → T (usable b) → T (le nought d) → T (le (div binary64 (neg d) b) nought)
unfolding le neg
arg_exponential nan b u h = absurd h
arg_exponential (inf true) b u h = absurd h
arg_exponential (inf false) b u h = go b (usable_nat b u)
  where
    go : (y : Float) → T (natural y) → T (le (div binary64 (inf true) y) nought)
    go nan p = absurd p
    go (inf s) p = absurd p
    go (fin true n e) p = absurd p
    go (fin false n e) p = unfold div in tt
arg_exponential (fin s m e) b u h =
    let n = usable_nat b u in
    let p = usable_pos b u in
    subst (λ (w : Float). T (le (div binary64 (neg (fin s m e)) b) w)) (zero_over binary64 b n p)
    (div_smono binary64 (neg (fin s m e)) nought b tt tt n p (le_tr (neg (fin s m e)) (neg nought) nought (neg_anti nought (fin s m e) h) minus_nought.0))

-- ---- the quotient d / b
quot_above : (d b : Float) → T (usable b) → T (le nought d) → T (le nought (div binary64 d b))
unfolding le
quot_above nan b u h = absurd h
quot_above (inf true) b u h = absurd h
quot_above (inf false) b u h = go b (usable_nat b u)
  where
    go : (y : Float) → T (natural y) → T (le nought (div binary64 (inf false) y))
    go nan p = absurd p
    go (inf s) p = absurd p
    go (fin true n e) p = absurd p
    go (fin false n e) p = unfold div in tt
quot_above (fin s m e) b u h =
    let n = usable_nat b u in
    let p = usable_pos b u in
    subst (λ (w : Float). T (le w (div binary64 (fin s m e) b))) (zero_over binary64 b n p) (div_smono binary64 nought (fin s m e) b tt tt n p h)

-- ---- the Gaussian kernel's argument, for any r that is not negative and fits
abbrev BIG : Float
BIG = fin false 1 (pos 1023)

big : round binary64 false (2 ^ 1024) 2 ≡ BIG
unfolding round
big = refl

fits_below : (s : Bool) (m : ℕ) (e : ℤ) → T (fits binary64 (fin s m e)) → m * up e ≤ 2 ^ 1024 * down e
unfolding fits
fits_below s zero e t = le_trans (le_of_eq (zero-mul (up e))) zero-le
fits_below s (suc m) e t =
    le_of_lt (ltb→lt (suc m * up e) (2 ^ 1024 * down e) (and_r (eqb (suc m % 2) 1 && ltb (suc m) (2 ^ 53) && leb (down e) (2 ^ 1074)) (ltb (suc m * up e) (2 ^ 1024 * down e)) t))

neg_half : (s : Bool) (m : ℕ) (e : ℤ) → mul binary64 (neg half) (fin s m e) ≡ round binary64 (not s) (m * up e) (2 * down e)
unfolding mul neg
neg_half true m e = ap (λ (n : ℕ). round binary64 false n (2 * down e)) (one-mul (m * up e))
neg_half false m e = ap (λ (n : ℕ). round binary64 true n (2 * down e)) (one-mul (m * up e))

half_fin : (s : Bool) (m : ℕ) (e : ℤ) → T (fits binary64 (fin s m e)) → T (finite (mul binary64 (neg half) (fin s m e)))
half_fin s m e F =
    mag_finite (mul binary64 (neg half) (fin s m e)) BIG tt
    (subst (λ (w : Float). T (le w BIG)) (sym (ap magnitude (neg_half s m e) ∙ round_mag binary64 (not s) (m * up e) (2 * down e)))
    (subst (λ (w : Float). T (le (round binary64 false (m * up e) (2 * down e)) w)) big
    (round_mono binary64 (m * up e) (2 * down e) (2 ^ 1024) 2 (mul-pos (lit< tt) (den_pos (fin s m e))) (lit< tt)
    (twice (m * up e) (down e) (2 ^ 1024) (2 ^ 1024 * down e) (2 ^ 1024 * (2 * down e)) (fits_below s m e F) (mul_left_comm (2 ^ 1024) 2 (down e))))))
  where
    twice : (a b c d f : ℕ) → a ≤ d → f ≡ 2 * d → a * 2 ≤ f
    twice a b c d f h k = omega arith

opposite : (s : Bool) → unlike (not s) s ≡ true
opposite true = refl
opposite false = refl

arg_gaussian : (r : Float) → T (fits binary64 r) → T (le nought r) → T (le (mul binary64 (mul binary64 (neg half) r) r) nought)
arg_gaussian nan F h = absurd (bad h)
  where
    bad : T (le nought nan) → ⊥
    bad t = unfold le in t
arg_gaussian (inf true) F h = absurd (bad h)
  where
    bad : T (le nought (inf true)) → ⊥
    bad t = unfold le in t
arg_gaussian (inf false) F h = unfold mul neg le in tt
arg_gaussian (fin s m e) F h =
    let r = fin s m e in
    let x = mul binary64 (neg half) r in
    let fx : T (finite x) = half_fin s m e F in
    let sx : unlike (sgn x) s ≡ true = ap (λ (t : Bool). unlike t s) (ap sgn (neg_half s m e) ∙ round_sgn binary64 (not s) (m * up e) (2 * down e)) ∙ opposite s in
    subst (λ (w : Float). T (le w nought)) (sym (mul_opened binary64 x r fx tt ∙ ap (λ (t : Bool). round binary64 t (num x * num r) (den x * den r)) sx))
    (round_below binary64 (num x * num r) (den x * den r) (mul-pos (den_pos x) (den_pos r)))

-- ---- the bisquare kernel
same_over : (b : Float) → T (natural b) → 0 < num b → div binary64 b b ≡ one
same_over b n p =
    div_by binary64 b b (nat_fin b n) n p
    ∙ ap (λ (s : Bool). round binary64 s (num b * den b) (num b * den b)) (nat_sgn b n)
    ∙ round_same binary64 false (num b * den b) (num b * den b) 1 1 (mul-pos p (den_pos b)) (lit< tt) (mul-one (num b * den b) ∙ sym (one-mul (num b * den b)))
    ∙ (unfold round in refl)

lt_fin : (d b : Float) → T (le nought d) → T (natural b) → T (lt d b) → T (finite d)
unfolding le lt
lt_fin nan b h n l = absurd h
lt_fin (inf true) b h n l = absurd h
lt_fin (inf false) nan h n l = absurd n
lt_fin (inf false) (inf t) h n l = absurd n
lt_fin (inf false) (fin t m e) h n l = absurd l
lt_fin (fin s m e) b h n l = tt

one_square : mul binary64 one one ≡ one
unfolding mul
one_square = refl

square : (z : Float) → T (finite z) → T (le (neg one) z) → T (le z one) → T (natural (mul binary64 z z)) × T (le (mul binary64 z z) one)
square z f h k =
    let q = square_mag binary64 z one f tt (subst (λ (w : Float). T (natural w)) (sym one_square) tt) (mag_of z one f tt h k) in
    (q.0, subst (λ (w : Float). T (le (mul binary64 z z) w)) one_square q.1)

ends : T (le nought (add binary64 one (neg one))) × T (le (add binary64 one (neg nought)) one)
unfolding add neg le
ends = (tt, tt)

bisquare_in : (d b : Float) → T (usable b) → T (le nought d) → T (lt d b) → In01 (let r = div binary64 d b in let t = sub binary64 one (mul binary64 r r) in mul binary64 t t)
bisquare_in d b u h l =
    let n = usable_nat b u in
    let p = usable_pos b u in
    let fd = lt_fin d b h n l in
    let r = div binary64 d b in
    let r0 : T (le nought r) = quot_above d b u h in
    let r1 : T (le r one) = subst (λ (w : Float). T (le r w)) (same_over b n p) (div_smono binary64 d b b fd (nat_fin b n) n p (lt→le d b l)) in
    let fr : T (finite r) = in_fin nought r one tt tt r0 r1 in
    let q = mul binary64 r r in
    let qi = square r fr (le_tr (neg one) nought r minus_nought.1 r0) r1 in
    let fq = nat_fin q qi.0 in
    let t = sub binary64 one q in
    let t0 : T (le nought t) =
    le_tr nought (add binary64 one (neg one)) t ends.0
    (subst (λ (w : Float). T (le (add binary64 one (neg one)) w)) (sym (sub_opened binary64 one q))
    (add_mono binary64 one one (neg one) (neg q) tt tt (neg_finite one tt) (neg_finite q fq) (le_self one tt) (neg_anti q one qi.1))) in
    let t1 : T (le t one) =
    le_tr t (add binary64 one (neg nought)) one
    (subst (λ (w : Float). T (le w (add binary64 one (neg nought)))) (sym (sub_opened binary64 one q))
    (add_mono binary64 one one (neg q) (neg nought) tt tt (neg_finite q fq) (neg_finite nought tt) (le_self one tt) (neg_anti nought q (nat_above q qi.0)))) ends.1 in
    let s = square t (in_fin nought t one tt tt t0 t1) (le_tr (neg one) nought t minus_nought.1 t0) t1 in
    (nat_above (mul binary64 t t) s.0, s.1)

-- ---- every weight
in_nought : In01 nought
unfolding le
in_nought = (tt, tt)

in_one : In01 one
unfolding le
in_one = (tt, tt)

nought_fits : T (fits binary64 nought)
unfolding fits
nought_fits = tt

one_fits : T (fits binary64 one)
unfolding fits
one_fits = tt

in_cond : (c : Bool) (x y : Float) → (T c → In01 x) → (T (not c) → In01 y) → In01 (cond c x y)
in_cond true x y h k = h tt
in_cond false x y h k = k tt

in_exp : (v : Float) → T (le v nought) → In01 (expv v)
unfolding of_bits
in_exp v h = let i = exp_in v (number_left v nought h) h in (i.1, i.2)

kernel_in : (k : GwrKernel) (d b : Float) → T (usable b) → T (le nought d) → In01 (kernel_weight k d b)
kernel_in Gaussian d b u h =
    let r = div binary64 d b in
    subst In01 (sym (gaussian_is d b)) (in_exp (mul binary64 (mul binary64 (neg half) r) r) (arg_gaussian r (div-fits binary64 d b) (quot_above d b u h)))
kernel_in Bisquare d b u h = subst In01 (sym (bisquare_is d b)) (in_cond (lt d b) _ nought (bisquare_in d b u h) (λ _. in_nought))
kernel_in Exponential d b u h = subst In01 (sym (exponential_is d b)) (in_exp (div binary64 (neg d) b) (arg_exponential d b u h))

weight_in : (k : GwrKernel) (d b : Float) → T (le nought d) → In01 (weight_of k d b)
weight_in k d b h =
    subst In01 (sym (weight_is k d b))
    (in_cond (unusable b) (cond (eq d nought) one nought) (kernel_weight k d b) (λ _. in_cond (eq d nought) one nought (λ _. in_one) (λ _. in_nought))
    (λ (u : T (not (unusable b))). kernel_in k d b (usable_of b u) h))

-- every weight of a distance that is not negative lies from 0 to 1
pub weights_in : (k : GwrKernel) (d b : Float) → T (le zero64 d) → FromZeroToOne (weight_of k d b)
unfolding of_bits
weights_in k d b h = let i = weight_in k d b h in record { low = i.0; high = i.1 }

-- ---- a distance of 0, of either sign
zero_quot : (s : Bool) (b : Float) → T (natural b) → 0 < num b → div binary64 (fin s 0 (pos 0)) b ≡ fin s 0 (pos 0)
zero_quot s b n p = div_by binary64 (fin s 0 (pos 0)) b tt n p ∙ ap (λ (k : ℕ). round binary64 s k (num b * 1)) (zero-mul (den b)) ∙ zero_of binary64 s (num b * 1) (mul-pos p (lit< tt))

gaussian_zero : (s : Bool) → (let r = fin s 0 (pos 0) in expv (mul binary64 (mul binary64 (neg half) r) r)) ≡ one
unfolding expv mul neg
gaussian_zero true = refl
gaussian_zero false = refl

bisquare_zero : (s : Bool) → (let r = fin s 0 (pos 0) in let t = sub binary64 one (mul binary64 r r) in mul binary64 t t) ≡ one
unfolding mul sub
bisquare_zero true = refl
bisquare_zero false = refl

expv_zero : (s : Bool) → expv (fin s 0 (pos 0)) ≡ one
unfolding expv
expv_zero true = refl
expv_zero false = refl

usable_lt : (s : Bool) (b : Float) → T (usable b) → lt (fin s 0 (pos 0)) b ≡ true
unfolding lt
usable_lt s nan u = absurd u
usable_lt s (inf t) u = absurd u
usable_lt s (fin true n e) u = absurd u
usable_lt false (fin false n e) u = is_true (ltb (0 * down e) (n * up e * 1)) u
usable_lt true (fin false n e) u = is_true (ltb 0 (0 * down e + n * up e * 1)) (lt→ltb 0 (0 * down e + n * up e * 1) (let h = ltb→lt (0 * down e) (n * up e * 1) u in omega arith))

neg_zero : (s : Bool) → neg (fin s 0 (pos 0)) ≡ fin (not s) 0 (pos 0)
unfolding neg
neg_zero s = refl

kernel_zero : (k : GwrKernel) (s : Bool) (b : Float) → T (usable b) → kernel_weight k (fin s 0 (pos 0)) b ≡ one
kernel_zero Gaussian s b u =
    gaussian_is (fin s 0 (pos 0)) b
    ∙ ap (λ (r : Float). expv (mul binary64 (mul binary64 (neg half) r) r)) (zero_quot s b (usable_nat b u) (usable_pos b u))
    ∙ gaussian_zero s
kernel_zero Bisquare s b u =
    bisquare_is (fin s 0 (pos 0)) b
    ∙ ap (λ (c : Bool). cond c (let r = div binary64 (fin s 0 (pos 0)) b in let t = sub binary64 one (mul binary64 r r) in mul binary64 t t) nought) (usable_lt s b u)
    ∙ ap (λ (r : Float). let t = sub binary64 one (mul binary64 r r) in mul binary64 t t) (zero_quot s b (usable_nat b u) (usable_pos b u))
    ∙ bisquare_zero s
kernel_zero Exponential s b u =
    exponential_is (fin s 0 (pos 0)) b
    ∙ ap (λ (x : Float). expv (div binary64 x b)) (neg_zero s)
    ∙ ap expv (zero_quot (not s) b (usable_nat b u) (usable_pos b u))
    ∙ expv_zero (not s)

eq_zero : (s : Bool) → eq (fin s 0 (pos 0)) nought ≡ true
unfolding eq
eq_zero true = refl
eq_zero false = refl

-- a distance of 0, of either sign, weighs 1 under every kernel and bandwidth
pub weight_zero : (k : GwrKernel) (s : Bool) (b : Float) → weight_of k (fin s 0 (pos 0)) b ≡ one64
unfolding of_bits
weight_zero k s b = weight_is k (fin s 0 (pos 0)) b ∙ go (unusable b) (λ u. kernel_zero k s b (usable_of b u))
  where
    go : (c : Bool) → (T (not c) → kernel_weight k (fin s 0 (pos 0)) b ≡ one) → cond c (cond (eq (fin s 0 (pos 0)) nought) one nought) (kernel_weight k (fin s 0 (pos 0)) b) ≡ one
    go true h = ap (λ (c : Bool). cond c one nought) (eq_zero s)
    go false h = h tt

-- ---- the sum of the first n weights

-- the sum of w 0 to w (n - 1), from 0, in order
unfoldable pub total_of : (ℕ → Float) → ℕ → Float
unfolding add
total_of w zero = zero64
total_of w (suc n) = add binary64 (total_of w n) (w n)

total_suc : (w : ℕ → Float) (n : ℕ) → total_of w (suc n) ≡ add binary64 (total_of w n) (w n)
unfolding total_of of_bits
total_suc w n = refl

-- counting up by ones is exact enough: n + 1, rounded, is at most the float of n + 1
abbrev counts : ℕ → Bool
counts zero = finite (of_int binary64 (pos 0))
counts (suc n) = le (add binary64 (of_int binary64 (pos n)) one) (of_int binary64 (pos (suc n))) && finite (of_int binary64 (pos (suc n))) && counts n

counted : T (counts 512)
unfolding le add of_int
counted = tt

counts_at : (m n : ℕ) → T (counts m) → n ≤ m → T (counts n)
counts_at zero n t h = subst (λ (i : ℕ). T (counts i)) (sym (le-zero h)) t
counts_at (suc m) n t h =
    elim (eq-or-lt_of_le h) [
      | inl e ↦ subst (λ (i : ℕ). T (counts i)) (sym e) t
      | inr g ↦ counts_at m n (and_r (le (add binary64 (of_int binary64 (pos m)) one) (of_int binary64 (pos (suc m))) && finite (of_int binary64 (pos (suc m)))) (counts m) t) (le_of_suc-le-suc g)
    ]

count_fin : (n : ℕ) → T (counts n) → T (finite (of_int binary64 (pos n)))
count_fin zero t = t
count_fin (suc n) t = and_r (le (add binary64 (of_int binary64 (pos n)) one) (of_int binary64 (pos (suc n)))) (finite (of_int binary64 (pos (suc n)))) (and_l (le (add binary64 (of_int binary64 (pos n)) one) (of_int binary64 (pos (suc n))) && finite (of_int binary64 (pos (suc n)))) (counts n) t)

none : T (le nought (of_int binary64 (pos 0))) × T (le nought nought)
unfolding of_int le
none = (tt, tt)

no_sum : add binary64 nought nought ≡ nought
unfolding add
no_sum = refl

module _ (w : ℕ → Float) where
  total_zero : total_of w zero ≡ nought
  unfolding total_of of_bits
  total_zero = refl

  total_in : (n : ℕ) → n ≤ 512 → ((i : ℕ) → i < n → In01 (w i)) → T (le nought (total_of w n)) × T (le (total_of w n) (of_int binary64 (pos n)))
  total_in zero h ok = subst (λ (x : Float). T (le nought x) × T (le x (of_int binary64 (pos 0)))) (sym total_zero) (none.1, none.0)
  total_in (suc n) h ok =
      let p = total_in n (le_of_lt h) (λ i l. ok i (le_trans l (le-suc n))) in
      let q = ok n (le_refl (suc n)) in
      let c = counts_at 512 (suc n) counted h in
      let c' = counts_at 512 n counted (le_of_lt h) in
      let fS = in_fin nought (total_of w n) (of_int binary64 (pos n)) tt (count_fin n c') p.0 p.1 in
      let fw = in_fin nought (w n) one tt tt q.0 q.1 in
      subst (λ (x : Float). T (le nought x) × T (le x (of_int binary64 (pos (suc n))))) (sym (total_suc w n)) (
        subst (λ (x : Float). T (le x (add binary64 (total_of w n) (w n)))) no_sum (add_mono binary64 nought (total_of w n) nought (w n) tt fS tt fw p.0 q.0),
        le_tr (add binary64 (total_of w n) (w n)) (add binary64 (of_int binary64 (pos n)) one) (of_int binary64 (pos (suc n)))
            (add_mono binary64 (total_of w n) (of_int binary64 (pos n)) (w n) one fS (count_fin n c') fw tt p.1 q.1)
            (and_l (le (add binary64 (of_int binary64 (pos n)) one) (of_int binary64 (pos (suc n)))) (finite (of_int binary64 (pos (suc n)))) (and_l (le (add binary64 (of_int binary64 (pos n)) one) (of_int binary64 (pos (suc n))) && finite (of_int binary64 (pos (suc n)))) (counts n) c)),
      )

  total_finite : (n : ℕ) → n ≤ 512 → ((i : ℕ) → i < n → In01 (w i)) → T (finite (total_of w n))
  total_finite n h ok = let p = total_in n h ok in in_fin nought (total_of w n) (of_int binary64 (pos n)) tt (count_fin n (counts_at 512 n counted h)) p.0 p.1

  -- the sum is at least each of them
  total_each : (n j : ℕ) → n ≤ 512 → ((i : ℕ) → i < n → In01 (w i)) → j < n → T (fits binary64 (w j)) → T (le (w j) (total_of w n))
  total_each zero j h ok l F = absurd (not-suc-le-zero l)
  total_each (suc n) j h ok l F =
      let ok' : (i : ℕ) → i < n → In01 (w i) = λ (i : ℕ) (g : i < n). ok i (le_trans g (le-suc n)) in
      let p = total_in n (le_of_lt h) ok' in
      let q = ok n (le_refl (suc n)) in
      let r = ok j l in
      let fS = total_finite n (le_of_lt h) ok' in
      let fw = in_fin nought (w n) one tt tt q.0 q.1 in
      let fj = in_fin nought (w j) one tt tt r.0 r.1 in
      subst (λ (x : Float). T (le (w j) x)) (sym (total_suc w n))
      (elim (eq-or-lt_of_le l) [
        | inl g ↦
            le_tr (w j) (add binary64 nought (w j)) (add binary64 (total_of w n) (w n)) (nought_plus binary64 (w j) F fj)
            (add_mono binary64 nought (total_of w n) (w j) (w n) tt fS fj fw p.0 (subst (λ (i : ℕ). T (le (w j) (w i))) (last j n g) (le_self (w j) fj)))
        | inr g ↦
            le_tr (w j) (add binary64 (w j) nought) (add binary64 (total_of w n) (w n)) (plus_nought binary64 (w j) F fj)
            (add_mono binary64 (w j) (total_of w n) nought (w n) fj fS tt fw (total_each n j (le_of_lt h) ok' (le_of_suc-le-suc g) F) q.0)
      ])
    where
      last : (a b : ℕ) → suc a ≡ suc b → a ≡ b
      last a b h = omega arith

-- 000's refusal of a weight sum, `weight_sum <= 0.0 || !weight_sum.is_finite()`: the sum of up to 512 weights is finite, and above 0 where one of them is
pub total_positive : (w : ℕ → Float) (n j : ℕ) → n ≤ 512 → ((i : ℕ) → i < n → FromZeroToOne (w i)) → j < n → T (fits binary64 (w j)) → T (finite (total_of w n)) × (T (lt zero64 (w j)) → T (lt zero64 (total_of w n)))
unfolding of_bits
total_positive w n j h ok l F =
    let ok' : (i : ℕ) → i < n → In01 (w i) = λ (i : ℕ) (g : i < n). ((ok i g).low, (ok i g).high) in
    let f = total_finite w n h ok' in
    (f, λ above. lt_of_not_le nought (total_of w n) tt f (λ (k : T (le (total_of w n) nought)). apart nought (w j) above (le_tr (w j) (total_of w n) nought (total_each w n j h ok' l F) k)))

-- ---- a weight is a number of binary64
kernel_fits : (k : GwrKernel) (d b : Float) → T (fits binary64 (kernel_weight k d b))
kernel_fits Gaussian d b = subst (λ (x : Float). T (fits binary64 x)) (sym (gaussian_is d b)) (exp_fits _)
kernel_fits Bisquare d b = subst (λ (x : Float). T (fits binary64 x)) (sym (bisquare_is d b)) (cond-fits binary64 (lt d b) _ _ (mul-fits binary64 _ _) nought_fits)
kernel_fits Exponential d b = subst (λ (x : Float). T (fits binary64 x)) (sym (exponential_is d b)) (exp_fits _)

pub weight_fits : (k : GwrKernel) (d b : Float) → T (fits binary64 (weight_of k d b))
weight_fits k d b =
    subst (λ (x : Float). T (fits binary64 x)) (sym (weight_is k d b))
    (cond-fits binary64 (unusable b) _ _ (cond-fits binary64 (eq d nought) _ _ one_fits nought_fits) (kernel_fits k d b))
