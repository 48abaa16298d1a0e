-- Solves rise by one with each step, and from the final fit on the bandwidth and the trials stay.
use lib.Ieee.{Float}
use Rattle.refusal.specs.declared.Refusal.{Refusal}
use Rattle.local.specs.declared.Solved.{Solved}
use Rattle.std.specs.Prelude.{Ok, Err, Result}
use mathlib.Core.Path.{◌≡◌, refl, sym, ap, subst, subst⁻¹, ◌∙◌}
use mathlib.Core.Bool.{true, false}
use Prim.Native.Nat.{ℕ, zero, suc, ◌+◌, ◌*◌, ◌≤◌}
use native.Mathlib.Nat.{mul-le-mul}
use native.Mathlib.Omega.{arith}
use lib.Dec.{eqb}
use Rattle.claims.specs.Words.{Setup, Data, score_of, narrow_of, add_values, Stage, First, Second, Round, Final, Ended, Job, is_ended, is_last_round, close_at, close_job, solved_job, pass_job, after_outcome, solve_of, step_job, step_of, is_over, steps}
use Rattle.claims.proofs.Laws.{either, never, sound_few, Holds, ended_few}
use Rattle.claims.specs.Turns.{JobState, settled}
use Rattle.claims.proofs.three.Leading.{Leads}

-- ---- solves

close_solves : (x : Stage) (j : Job) (c : Result Float Refusal) → (close_at x j c).solves ≡ j.solves
close_solves First j c = refl
close_solves Second j c = refl
close_solves Round j c = either (λ (k : Job). k.solves ≡ j.solves) (is_last_round j.trials.made (narrow_of j.trials.bracket (score_of c))) _ _ refl refl
close_solves Final j c = refl
close_solves (Ended x) j c = refl

after_solves : (j : Job) (o : Result Solved Refusal) → (after_outcome j o).solves ≡ j.solves + 1
unfolding pass_job close_job
after_solves j (Ok v) =
    either (λ (k : Job). k.solves ≡ j.solves + 1) (eqb (j.sweep.location + 1) j.setup.n) _ _ (close_solves j.stage (solved_job j (add_values j.sweep v.values)) _) refl
after_solves j (Err r) = close_solves j.stage (solved_job j j.sweep) _

pub steps_solves : (d : Data) (k : ℕ) (s : JobState) → (steps (step_of d) k s).0.solves ≡ s.0.solves + k
unfolding steps step_of step_job
steps_solves d zero s = omega arith
steps_solves d (suc k) s = omega (arith, steps_solves d k (step_of d s), after_solves s.0 (solve_of d s.0))

-- a state that holds has made at most 103 × n solves
pub few_solves : (u : Setup) (long : ℕ) (s : JobState) → Holds u long s → s.0.solves ≤ 103 * u.n
few_solves u long s h =
    let k = h.held in
    let j = s.0 in
    let t : j.trials.made * j.setup.n ≤ 102 * j.setup.n = mul-le-mul (sound_few k) (omega arith) in
    subst (λ (w : Setup). j.solves ≤ 103 * w.n) h.setup (omega (arith, k.solves, k.within, ended_few j.stage))

-- ---- the bandwidth and the trials

-- those of j
abbrev pub Alike : Job → Job → Type 0
Alike j k = (k.bandwidth ≡ j.bandwidth) × (k.trials.made ≡ j.trials.made)

-- in the final fit, or ended, with those of j
abbrev Stays : Job → Job → Type 0
Stays j k = (settled k.stage ≡ true) × Alike j k

close_stays : (x : Stage) (j : Job) (c : Result Float Refusal) → x ≡ Final → Stays j (close_at x j c)
close_stays x j c e = subst⁻¹ (λ (z : Stage). Stays j (close_at z j c)) e (refl, (refl, refl))

after_stays : (j : Job) (o : Result Solved Refusal) → j.stage ≡ Final → Stays j (after_outcome j o)
unfolding pass_job close_job
after_stays j (Ok v) e =
    either (Stays j) (eqb (j.sweep.location + 1) j.setup.n) _ _ (close_stays j.stage (solved_job j (add_values j.sweep v.values)) _ e) (ap settled e, (refl, refl))
after_stays j (Err r) e = close_stays j.stage (solved_job j j.sweep) _ e

final_of_lem : (x : Stage) → settled x ≡ true → is_ended x ≡ false → x ≡ Final
final_of_lem First h e = never h
final_of_lem Second h e = never h
final_of_lem Round h e = never h
final_of_lem Final h e = refl
final_of_lem (Ended c) h e = never (sym e)

pub stays : (d : Data) (k : ℕ) (s t : JobState) → Leads (step_of d) is_over k s t → settled s.0.stage ≡ true → Alike s.0 t.0
unfolding steps step_of step_job
stays d zero s t l h = (ap (λ (z : JobState). z.0.bandwidth) (sym l.to), ap (λ (z : JobState). z.0.trials.made) (sym l.to))
stays d (suc k) s t l h =
    let z = after_stays s.0 (solve_of d s.0) (final_of_lem s.0.stage h (l.live 0 (omega arith))) in
    let y = stays d k (step_of d s) t (record { to = l.to; live = λ i q. l.live (suc i) (omega arith) }) z.0 in
    (y.0 ∙ z.1.0, y.1 ∙ z.1.1)
