-- Steps that lead from one state to another, none of them made once the work is over. Nothing here knows what a step is.
use mathlib.Core.Path.{◌≡◌, refl, sym, ap, ◌∙◌}
use mathlib.Core.Bool.{Bool, true, false}
use mathlib.Core.Logic.{◌⊎◌, inl, inr}
use Prim.Native.Nat.{ℕ, zero, suc, ◌+◌, ◌-◌, ◌≤◌, ◌<◌, min}
use native.Mathlib.Nat.{suc-add, zero-add}
use native.Mathlib.Omega.{arith}
use Rattle.claims.specs.Words.{steps, run}
use Rattle.claims.proofs.Laws.{here_or_on}

module _ {S : Type 0} (step : S → S) where
  pub steps_add : (a b : ℕ) (s : S) → steps step (a + b) s ≡ steps step b (steps step a s)
  unfolding steps
  steps_add zero b s = rw zero-add
  steps_add (suc a) b s = rw suc-add (steps_add a b (step s))

module _ {S : Type 0} (step : S → S) (over : S → Bool) where
  -- k steps lead from s to t, and the work is not over before any of them
  pub record Leads (k : ℕ) (s t : S) : Type 0 where
    pub to : steps step k s ≡ t
    pub live : (i : ℕ) → i < k → over (steps step i s) ≡ false

module _ {S : Type 0} {step : S → S} {over : S → Bool} where
  pub leads_none : (s : S) → Leads step over 0 s s
  unfolding steps
  leads_none s = record { to = refl; live = λ i h. absurd (omega arith) }

  pub leads_one : {s t : S} → over s ≡ false → step s ≡ t → Leads step over 1 s t
  unfolding steps
  leads_one {s} h e = record { to = e; live = λ i l. let z : i ≡ 0 = omega arith in rw z h }

  pub leads_then : {a b : ℕ} {s u t : S} → Leads step over a s u → Leads step over b u t → Leads step over (a + b) s t
  leads_then {a} {b} {s} {u} h k =
      record {
        to = steps_add step a b s ∙ ap (steps step b) h.to ∙ k.to;
        live = λ i l. go i l (here_or_on i a);
      }
    where
      go : (i : ℕ) → i < a + b → (i < a) ⊎ (a ≤ i) → over (steps step i s) ≡ false
      go i l (inl q) = h.live i q
      go i l (inr q) =
          let e : i ≡ a + (i - a) = omega arith in
          let f : steps step i s ≡ steps step (i - a) u = ap (λ (z : ℕ). steps step z s) e ∙ steps_add step a (i - a) s ∙ ap (steps step (i - a)) h.to in
          rw f (k.live (i - a) (omega arith))

  -- what is left of the way after k of its steps
  pub leads_on : (k : ℕ) {n : ℕ} {s t : S} → k ≤ n → Leads step over n s t → Leads step over (n - k) (steps step k s) t
  leads_on k {n} {s} h l =
      let e : k + (n - k) ≡ n = omega arith in
      record {
        to = sym (steps_add step k (n - k) s) ∙ ap (λ (z : ℕ). steps step z s) e ∙ l.to;
        live = λ i q. rw (← steps_add step k i s) (l.live (k + i) (omega arith));
      }

  -- a run with the allowance a, where m steps lead to the end
  pub run_leads : (m a : ℕ) {s t : S} → over t ≡ true → Leads step over m s t → run step over a s ≡ (steps step (min m a) s, min m a)
  unfolding steps run
  run_leads m zero e h = let z : min m 0 ≡ 0 = omega arith in rw z
  run_leads zero (suc a) e h = let z : min 0 (suc a) ≡ 0 = omega arith in rw (z, h.to, e)
  run_leads (suc m) (suc a) {s} e h =
      let z : min (suc m) (suc a) ≡ suc (min m a) = omega arith in
      let live : over s ≡ false = h.live 0 (omega arith) in
      rw (z, live, run_leads m a e (record { to = h.to; live = λ i l. h.live (suc i) (omega arith) }))
