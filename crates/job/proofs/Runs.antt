-- Steps and runs: what a loop of steps has come to, and what a step keeps.
use mathlib.Core.Path.{◌≡◌, refl, sym, ap, ◌∙◌}
use mathlib.Core.Bool.{Bool, true, false, cond}
use Prim.Native.Nat.{ℕ, zero, suc, ◌+◌, ◌-◌, ◌≤◌, ◌<◌}
use native.Mathlib.Omega.{arith}
use Rattle.sweep.proofs.Sweeps.{pair}
use Rattle.job.specs.Run.{steps, run}

module _ {S : Type 0} (step : S → S) (over : S → Bool) where
  -- nothing is done once the work is over
  pub run_over : (a : ℕ) (s : S) → over s ≡ true → run step over a s ≡ (s, 0)
  unfolding run
  run_over zero s e = refl
  run_over (suc a) s e = rw e

  pub run_more : (a : ℕ) (s : S) → over s ≡ false → run step over (suc a) s ≡ ((run step over a (step s)).0, suc (run step over a (step s)).1)
  unfolding run
  run_more a s e = rw e

  pub run_few : (a : ℕ) (s : S) → (run step over a s).1 ≤ a
  unfolding run
  run_few zero s = omega arith
  run_few (suc a) s = go (over s) (run_few a (step s))
    where
      go : (b : Bool) → (run step over a (step s)).1 ≤ a → (cond {A = S × ℕ} b (s, 0) ((run step over a (step s)).0, suc (run step over a (step s)).1)).1 ≤ suc a
      go true h = omega arith
      go false h = omega (arith, h)

  -- what holds at first and is kept by a step of what is not over
  module _ (P : S → Type 0) (keep : (s : S) → over s ≡ false → P s → P (step s)) where
    pub run_keeps : (a : ℕ) (s : S) → P s → P (run step over a s).0
    unfolding run
    run_keeps zero s h = h
    run_keeps (suc a) s h = go (over s) refl (λ e. run_keeps a (step s) (keep s e h))
      where
        go : (b : Bool) → over s ≡ b → (over s ≡ false → P (run step over a (step s)).0) → P (cond {A = S × ℕ} b (s, 0) ((run step over a (step s)).0, suc (run step over a (step s)).1)).0
        go true e f = h
        go false e f = f e

    pub steps_keep : (k : ℕ) (s : S) → P s → ((i : ℕ) → i < k → over (steps step i s) ≡ false) → P (steps step k s)
    unfolding steps
    steps_keep zero s h live = h
    steps_keep (suc k) s h live = steps_keep k (step s) (keep s (live 0 (omega arith)) h) (λ i l. live (suc i) (omega arith))

  -- a run of the allowance from s₀ has made so many steps and come to s, and so many are left
  pub record Running (allowance : ℕ) (s₀ : S) (left made : ℕ) (s : S) : Type 0 where
    pub state : (run step over left s).0 ≡ (run step over allowance s₀).0
    pub count : made + (run step over left s).1 ≡ (run step over allowance s₀).1
    pub all : made + left ≡ allowance

module _ {S : Type 0} {step : S → S} {over : S → Bool} {allowance : ℕ} {s₀ : S} where
  pub running_none : Running step over allowance s₀ allowance 0 s₀
  running_none = record { state = refl; count = omega arith; all = omega arith }

  module _ {left made : ℕ} {s : S} (r : Running step over allowance s₀ left made s) where
    -- one step more of what is not over
    pub running_more : (t : S) → 0 < left → over s ≡ false → t ≡ step s → Running step over allowance s₀ (left - 1) (made + 1) t
    running_more t some live h =
        let e : left ≡ suc (left - 1) = omega arith in
        let more : run step over left s ≡ ((run step over (left - 1) t).0, suc (run step over (left - 1) t).1) =
        ap (λ (a : ℕ). run step over a s) e
        ∙ run_more step over (left - 1) s live
        ∙ ap (λ (x : S). ((run step over (left - 1) x).0, suc (run step over (left - 1) x).1)) (sym h) in
        record {
          state = sym (ap (λ (x : S × ℕ). x.0) more) ∙ r.state;
          count = omega (arith, ap (λ (x : S × ℕ). x.1) more, r.count);
          all = omega (arith, r.all);
        }

    ended : run step over left s ≡ (s, 0) → ◌≡◌ {A = S × ℕ} (s, made) (run step over allowance s₀)
    ended e =
        let state : s ≡ (run step over allowance s₀).0 = sym (ap (λ (x : S × ℕ). x.0) e) ∙ r.state in
        let count : made ≡ (run step over allowance s₀).1 = omega (arith, ap (λ (x : S × ℕ). x.1) e, r.count) in
        pair state count

    -- the whole run, where the work is over or the allowance is spent
    pub running_over : over s ≡ true → ◌≡◌ {A = S × ℕ} (s, made) (run step over allowance s₀)
    running_over e = ended (run_over step over left s e)

    pub running_spent : left ≡ 0 → ◌≡◌ {A = S × ℕ} (s, made) (run step over allowance s₀)
    unfolding run
    running_spent e = ended (ap (λ (a : ℕ). run step over a s) e)
