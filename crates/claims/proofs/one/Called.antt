-- The byte calls and the printing program: what is served.
use Rattle.std.specs.Prelude.{Result, Ok, Err, Option, Some, None, IfSome, IsOkAnd}
use Rattle.sweep.specs.Finish.{number_at}
use Rattle.gwr.specs.declared.Fit.{Fit}
use Rattle.sweep.specs.declared.Finish.{Finish}
use mathlib.Core.Path.{◌≡◌, refl, subst, subst⁻¹}
use mathlib.Core.List.{List}
use mathlib.Core.Logic.{◌⊎◌, inl, inr}
use Prim.Native.Nat.{ℕ, ◌+◌, ◌*◌, ◌/◌, ◌≤◌, ◌<◌}
use native.Mathlib.Omega.{arith}
use lib.ListN.{length, take, replicate}
use lib.Ieee.{Float}
use Rattle.std.specs.Prelude.{Ok}
use Rattle.claims.specs.Words.{zero64, Refusal, refusal_number, NoneOf, Decides, GwrKernel, weight_of, GwrBandwidth, GwrOptions, Setup, setup_of, Data, solve_location, deviation, corrected_aic, rounded, from_count, root, finish_of, real_of, kernel_of, named_kernel, options_of, named, AfterCall, numbers_of, call_tests, placed_rows, answer_bytes, numbers_fit, fit_bytes, weight_tests, refused_weight, given_weight, weight_bytes, rows_written}
use Rattle.claims.proofs.Laws.{either, AtFit, OutcomeBy, call_decides, weight_decides, call_passed, call_untouched, weight_known}
use lib.Ieee.Scale.{finite}
use Rattle.claims.specs.DemandOne.{FitAnswered, BytesServed}
use Rattle.claims.proofs.Sums.{accepted, weighs_at, trusting_weighs}
use Rattle.claims.proofs.one.Deciding.{fit_decides}

-- ---- a fit that is served is fitted, or failed with 14 to 17

abbrev InRange : Refusal → Type 0
InRange r = (14 ≤ refusal_number r) × (refusal_number r ≤ 17)

fit_number : (r : Refusal) → AtFit r → InRange r
fit_number r (inl e) = subst⁻¹ InRange e (omega arith, omega arith)
fit_number r (inr (inl e)) = subst⁻¹ InRange e (omega arith, omega arith)
fit_number r (inr (inr e)) = subst⁻¹ InRange e (omega arith, omega arith)

abbrev Said : Finish → Type 0
Said f = IfSome f.refusal InRange

aic_said : (u : Setup) (rss trace : Float) (b : GwrBandwidth) (solves : ℕ) → Said (finish_of (corrected_aic u rss trace) b solves)
unfolding corrected_aic
aic_said u rss trace b solves = either (λ (c : Result Float Refusal). Said (finish_of c b solves)) (finite (deviation rounded root (from_count u.n) rss)) _ _ tt (omega arith, omega arith)

answer_said : (u : Setup) (d : Data) (b : GwrBandwidth) (searched : ℕ) (a : Finish) (rows : ℕ) → ((i : ℕ) → i < u.n → OutcomeBy AtFit (solve_location u d b i))
    → FitAnswered a (solve_location u d b) b searched rows u → Said a
answer_said u d b searched a rows weighs (inl (l, r, e, h)) = subst⁻¹ Said h (fit_number r (subst (OutcomeBy AtFit) e (weighs rows l)))
answer_said u d b searched a rows weighs (inr (l, h)) = subst⁻¹ Said h (aic_said u _ _ b (searched + u.n))

abbrev Numbered : ℕ → Type 0
Numbered z = (z ≡ 0) ⊎ ((14 ≤ z) × (z ≤ 17))

number_in : (r : Option Refusal) → IfSome r InRange → Numbered (number_at r)
number_in None h = inl refl
number_in (Some r) h = inr h

-- what is known of a fit that was made
made_so : (a : Result Fit Refusal) {P Q : Fit → Type 0} → IsOkAnd a P → ((f : Fit) → P f → Q f) → IsOkAnd a Q
made_so (Ok f) h so = so f h
made_so (Err r) h so = h

answer_in : (a : Result Fit Refusal) (rows : List Float) (out summary : List ℕ) → IsOkAnd a (λ (f : Fit). Said f.finish) → Numbered (answer_bytes a rows out summary).0
unfolding placed_rows
answer_in (Ok f) rows out summary h = number_in f.finish.refusal h
answer_in (Err r) rows out summary h = absurd h

-- ---- the fit call

module _ (coords x y : List ℕ) (p kernel kind bandwidth : ℕ) (out summary : List ℕ) where
  abbrev o : GwrOptions
  o = named (options_of kernel kind bandwidth)

  abbrev a : AfterCall
  a = fit_bytes coords x y p kernel kind bandwidth out summary

  served : NoneOf (call_tests coords x y p kernel kind bandwidth (length out) (length summary)) → BytesServed coords x y p o out summary a
  served h =
      let f = numbers_fit coords x y p o in
      let e = (call_decides coords x y p out summary kernel kind bandwidth).served h in
      let d = numbers_of coords x y p in
      let room = replicate (length coords / 16 * (p + 4)) zero64 in
      let passed = (call_passed coords x y p kernel kind bandwidth out summary h).fitted in
      let job = (fit_decides d p o room).served passed in
      let weighs : (i : ℕ) → i < (setup_of d p o).n → (b : GwrBandwidth) → OutcomeBy AtFit (solve_location (setup_of d p o) d b i) =
      λ i l b. weighs_at d p o (length room) passed i l b (trusting_weighs d.coords d.predictors d.responses i (omega (arith, l, (accepted d p o (length room) passed).shaped.answers))) in
      let t = call_untouched coords x y p kernel kind bandwidth out summary h in
      record {
        numbers = job;
        placed_in = e;
        number =
            subst⁻¹ (λ (z : AfterCall). Numbered z.0) e (answer_in f.0 (take (rows_written f.0 * (p + 4)) f.1) out summary (made_so f.0 job (λ g q. answer_said _ d _ _ _ _ (λ i l. weighs i l _) q.answered)));
        untouched = t.rows;
        summary_untouched = t.sums;
        long = t.long;
      }

  pub fit_call_decides : Decides (call_tests coords x y p kernel kind bandwidth (length out) (length summary)) (λ (r : Refusal). a ≡ (refusal_number r, (out, summary))) (BytesServed coords x y p o out summary a)
  fit_call_decides = record { refused = (call_decides coords x y p out summary kernel kind bandwidth).refused; served = served }

-- ---- the weight call

pub weight_call_decides : (kernel d b : ℕ) (out : List ℕ)
    → Decides (weight_tests kernel d (length out)) (λ (r : Refusal). weight_bytes kernel d b out ≡ refused_weight r out)
    ((k : GwrKernel) × (kernel_of kernel ≡ Ok k) × (weight_bytes kernel d b out ≡ given_weight (weight_of k (real_of d) (real_of b)) out))
weight_call_decides kernel d b out =
    let w = weight_decides kernel d b out in
    record { refused = w.refused; served = λ h. (named_kernel (kernel_of kernel), weight_known kernel d (length out) h, w.served h) }
