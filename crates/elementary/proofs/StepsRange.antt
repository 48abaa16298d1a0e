-- The steps of exp on an interval: with |r| at most 0.35 the 13 steps from 1 stay from 1/2 to 3/2, and with r at most 0 the last gives 1 at most. Assumes nothing.
use Rattle.std.proofs.Common.{◌≡◌, ℕ, zero, suc, ◌<◌, Bool, ◌&&◌, T, ltb, List, [], ◌∷◌, pos, sym, refl, ap, ◌∙◌, subst, ltb→lt}
use lib.Ieee.{Float, binary64, add, mul, div, neg, le, of_int, of_bits, round}
use lib.Ieee.Fits.{and_l, and_r}
use lib.Ieee.Scale.{finite}
use lib.Ieee.Positive.{num, positive}
use Rattle.real.specs.Reals.{magnitude}
use Rattle.real.proofs.SignedOrder.{le_tr, natural, nat_fin, add_mono, mul_smono, mul_nmono, div_smono, mag_in, mag_finite, mag_self, mag_nat, mul_mag, div_mag, above_nat, le_self, zero_times, zero_over, neg_finite}
use Rattle.real.proofs.Closed.{one, half, nought}
use Rattle.exponent_table.proofs.Tests.{allb, All, all→}
use Rattle.exponent_table.proofs.Table.{R35}
use Rattle.elementary.specs.Exp.{exp_step, exp_steps}
use Rattle.elementary.specs.Ln.{three_halves}

-- ---- one Horner step on |r| ≤ R and 0 ≤ s ≤ hi
abbrev pub quot : Float → Float → ℕ → Float
quot R hi j = div binary64 (mul binary64 R hi) (of_int binary64 (pos j))

abbrev pub lower : Float → Float → ℕ → Float
lower R hi j = add binary64 one (neg (quot R hi j))

abbrev pub upper : Float → Float → ℕ → Float
upper R hi j = add binary64 one (quot R hi j)

-- the tests of one step
abbrev pub step_tests : Float → Float → ℕ → List Bool
step_tests R hi j = natural (of_int binary64 (pos j)) ∷ ltb 0 (num (of_int binary64 (pos j))) ∷ natural (mul binary64 R hi) ∷ natural (quot R hi j) ∷ positive (lower R hi j) ∷ natural (upper R hi j) ∷ []

pub step_is : (r s : Float) (j : ℕ) → exp_step r s j ≡ add binary64 one (div binary64 (mul binary64 r s) (of_int binary64 (pos j)))
unfolding exp_step of_bits
step_is r s j = refl

one_nought : add binary64 one nought ≡ one
unfolding add
one_nought = refl

module _ (R hi r s : Float) (j : ℕ) (ok : All (step_tests R hi j)) (NR : T (natural R)) (Nh : T (natural hi)) (fr : T (finite r)) (hr : T (le (magnitude r) R)) (ns : T (natural s)) (hs : T (le s hi)) where
  -- |r s| ≤ R hi, and |r s / j| ≤ R hi / j
  mul_in : T (le (magnitude (mul binary64 r s)) (mul binary64 R hi))
  mul_in =
      subst (λ (w : Float). T (le w (mul binary64 R hi))) (sym (mul_mag binary64 r s fr (nat_fin s ns) ∙ ap (mul binary64 (magnitude r)) (mag_self s ns)))
      (mul_nmono binary64 (magnitude r) R s hi (mag_nat r fr) NR ns Nh hr hs)

  mul_fin : T (finite (mul binary64 r s))
  mul_fin = mag_finite (mul binary64 r s) (mul binary64 R hi) ok.1.1.0 mul_in

  quot_in : T (le (magnitude (quot r s j)) (quot R hi j))
  quot_in =
      let J = of_int binary64 (pos j) in
      let m = mul binary64 r s in
      let pJ : 0 < num J = ltb→lt 0 (num J) ok.1.0 in
      subst (λ (w : Float). T (le w (quot R hi j))) (sym (div_mag binary64 m J mul_fin ok.0 pJ))
      (div_smono binary64 (magnitude m) (mul binary64 R hi) J (nat_fin (magnitude m) (mag_nat m mul_fin)) (nat_fin (mul binary64 R hi) ok.1.1.0) ok.0 pJ mul_in)

  quot_fin : T (finite (quot r s j))
  quot_fin = mag_finite (quot r s j) (quot R hi j) ok.1.1.1.0 quot_in

  pub step_in : T (le (lower R hi j) (exp_step r s j)) × T (le (exp_step r s j) (upper R hi j))
  step_in =
      let Q = quot R hi j in
      let q = quot r s j in
      let nQ : T (natural Q) = ok.1.1.1.0 in
      let io = mag_in q Q quot_fin nQ quot_in in (
        subst (λ (w : Float). T (le (lower R hi j) w)) (sym (step_is r s j)) (add_mono binary64 one one (neg Q) q tt tt (neg_finite Q (nat_fin Q nQ)) quot_fin (le_self one tt) io.0),
        subst (λ (w : Float). T (le w (upper R hi j))) (sym (step_is r s j)) (add_mono binary64 one one q Q tt tt quot_fin (nat_fin Q nQ) (le_self one tt) io.1),
      )

  pub step_nat : T (natural (exp_step r s j))
  step_nat = above_nat (lower R hi j) (exp_step r s j) (upper R hi j) ok.1.1.1.1.0 (nat_fin (upper R hi j) ok.1.1.1.1.1.0) step_in.0 step_in.1

  -- a step with r ≤ 0 gives 1 at most
  step_neg : T (le r nought) → T (le (exp_step r s j) one)
  step_neg r0 =
      let J = of_int binary64 (pos j) in
      let pJ : 0 < num J = ltb→lt 0 (num J) ok.1.0 in
      let m = mul binary64 r s in
      let q = quot r s j in
      let m0 : T (le m nought) = subst (λ (w : Float). T (le m w)) (zero_times binary64 s ns) (mul_smono binary64 r nought s fr tt ns r0) in
      let q0 : T (le q nought) = subst (λ (w : Float). T (le q w)) (zero_over binary64 J ok.0 pJ) (div_smono binary64 m nought J mul_fin tt ok.0 pJ m0) in
      subst (λ (w : Float). T (le w one)) (sym (step_is r s j))
      (subst (λ (w : Float). T (le (add binary64 one q) w)) one_nought (add_mono binary64 one one q nought tt tt quot_fin tt (le_self one tt) q0))

-- ---- all the steps: the answer, from s ≤ hi, lies in [1/2, 3/2]; l is a number that s is known to reach
abbrev steps_ok : ℕ → Float → Float → Float → Bool
steps_ok zero R l hi = le half l && le hi three_halves
steps_ok (suc j) R l hi = allb (step_tests R hi (suc j)) && steps_ok j R (lower R hi (suc j)) (upper R hi (suc j))

pub steps_is : (j : ℕ) (r s : Float) → exp_steps (suc j) r s ≡ exp_steps j r (exp_step r s (suc j))
unfolding exp_steps
steps_is j r s = refl

pub steps_zero : (r s : Float) → exp_steps zero r s ≡ s
unfolding exp_steps
steps_zero r s = refl

module _ (R r : Float) (NR : T (natural R)) (fr : T (finite r)) (hr : T (le (magnitude r) R)) where
  steps_in : (j : ℕ) (l hi s : Float) → T (steps_ok j R l hi) → T (natural hi) → T (natural s) → T (le l s) → T (le s hi) → T (le half (exp_steps j r s)) × T (le (exp_steps j r s) three_halves)
  steps_in zero l hi s ok Nh ns hl hs = (
    subst (λ (w : Float). T (le half w)) (sym (steps_zero r s)) (le_tr half l s (and_l (le half l) (le hi three_halves) ok) hl),
    subst (λ (w : Float). T (le w three_halves)) (sym (steps_zero r s)) (le_tr s hi three_halves hs (and_r (le half l) (le hi three_halves) ok)),
  )
  steps_in (suc j) l hi s ok Nh ns hl hs =
      let more = steps_ok j R (lower R hi (suc j)) (upper R hi (suc j)) in
      let c = all→ (step_tests R hi (suc j)) (and_l (allb (step_tests R hi (suc j))) more ok) in
      let i = step_in R hi r s (suc j) c NR Nh fr hr ns hs in
      subst (λ (w : Float). T (le half w) × T (le w three_halves)) (sym (steps_is j r s))
      (steps_in j (lower R hi (suc j)) (upper R hi (suc j)) (exp_step r s (suc j)) (and_r (allb (step_tests R hi (suc j))) more ok) c.1.1.1.1.1.0 (step_nat R hi r s (suc j) c NR Nh fr hr ns hs) i.0 i.1)

  steps_neg : (j : ℕ) (l hi s : Float) → T (steps_ok (suc j) R l hi) → T (natural hi) → T (natural s) → T (le s hi) → T (le r nought) → T (le (exp_steps (suc j) r s) one)
  steps_neg zero l hi s ok Nh ns hs r0 =
      let more = steps_ok zero R (lower R hi 1) (upper R hi 1) in
      let c = all→ (step_tests R hi 1) (and_l (allb (step_tests R hi 1)) more ok) in
      subst (λ (w : Float). T (le w one)) (sym (steps_is zero r s ∙ steps_zero r (exp_step r s 1))) (step_neg R hi r s 1 c NR Nh fr hr ns hs r0)
  steps_neg (suc j) l hi s ok Nh ns hs r0 =
      let more = steps_ok (suc j) R (lower R hi (suc (suc j))) (upper R hi (suc (suc j))) in
      let c = all→ (step_tests R hi (suc (suc j))) (and_l (allb (step_tests R hi (suc (suc j)))) more ok) in
      let i = step_in R hi r s (suc (suc j)) c NR Nh fr hr ns hs in
      subst (λ (w : Float). T (le w one)) (sym (steps_is (suc j) r s))
      (steps_neg j (lower R hi (suc (suc j))) (upper R hi (suc (suc j))) (exp_step r s (suc (suc j))) (and_r (allb (step_tests R hi (suc (suc j)))) more ok) c.1.1.1.1.1.0 (step_nat R hi r s (suc (suc j)) c NR Nh fr hr ns hs) i.1 r0)

pub R35-nat : T (natural R35)
unfolding round
R35-nat = tt

thirteen : T (steps_ok 13 R35 one one)
unfolding round add mul div neg of_int le
thirteen = tt

pub s_in : (r : Float) → T (finite r) → T (le (magnitude r) R35) → T (le half (exp_steps 13 r one)) × T (le (exp_steps 13 r one) three_halves)
s_in r fr hr = steps_in R35 r R35-nat fr hr 13 one one one thirteen tt tt (le_self one tt) (le_self one tt)

pub s_neg : (r : Float) → T (finite r) → T (le (magnitude r) R35) → T (le r nought) → T (le (exp_steps 13 r one) one)
s_neg r fr hr r0 = steps_neg R35 r R35-nat fr hr 12 one one one thirteen tt tt (le_self one tt) r0
