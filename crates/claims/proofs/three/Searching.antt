-- The golden section of the uninterrupted fit is as many steps of the job as its trials make solves.
use mathlib.Core.Path.{◌≡◌, refl}
use mathlib.Core.Bool.{Bool, true, false, cond}
use mathlib.Core.List.{List, [], ◌∷◌}
use Prim.Native.Nat.{ℕ, zero, suc, ◌+◌, ◌≤◌, ◌<◌}
use native.Mathlib.Nat.{zero-add}
use native.Mathlib.Omega.{arith}
use borrow.Author.Tests.{eq-eqb, ne_eqb}
use lib.Dec.{eqb}
use lib.ListN.{length}
use lib.Ieee.{Float, binary64, le, of_bits}
use Rattle.claims.specs.Words.{magnitude, turns, range, Setup, Data, Bracket, start_of, first_of, second_of, aim_of, narrow_of, tight_of, bandwidth_at, Search, Trial, trial_of, round_of, opened_of, golden_of, loop_body, First, Second, Round, Final, is_last_round}
use Rattle.claims.proofs.Laws.{either, variables_of, body_is, left, front, opened_is}
use Rattle.claims.specs.Whole.{Scored, tried_in, loop_trials, golden_trials}
use Rattle.claims.specs.Turns.{JobState}
use Rattle.claims.proofs.three.Leading.{leads_then}
use Rattle.claims.proofs.three.Sweeping.{start_at, Leading, trial_leads}

module _ (u : Setup) (d : Data) (some : 1 ≤ u.n) (out : List Float) where
  abbrev trial : Float → Trial
  trial = trial_of u d

  abbrev Way : ℕ → JobState → JobState → Type 0
  Way = Leading u d

  -- trial 1
  first_leads : (g : Bracket) (m c : ℕ) → let t = trial g.c in
      Way t.solves (start_at u First g (bandwidth_at u g.c) m c out) (start_at u Second (first_of g t.score) (bandwidth_at u g.d) (m + 1) (c + t.solves) out)
  unfolding trial_of
  first_leads g m c = trial_leads u d First g (bandwidth_at u g.c) m c out refl refl some

  -- trial 2
  second_leads : (g : Bracket) (point : Float) (m c : ℕ) → let t = trial point in let h = second_of g t.score in
      Way t.solves (start_at u Second g (bandwidth_at u point) m c out) (start_at u Round h (bandwidth_at u (aim_of h)) (m + 1) (c + t.solves) out)
  unfolding trial_of
  second_leads g point m c = trial_leads u d Second g (bandwidth_at u point) m c out refl refl some

  -- the states before a round and before the final fit
  abbrev in_round : Bracket → ℕ → ℕ → JobState
  in_round g m c = start_at u Round g (bandwidth_at u (aim_of g)) m c out

  abbrev in_final : Bracket → ℕ → ℕ → JobState
  in_final g m c = start_at u Final g (bandwidth_at u g.best) m c out

  module _ (g : Bracket) (m c : ℕ) where
    abbrev tried : Trial
    tried = trial (aim_of g)

    abbrev narrowed : Bracket
    narrowed = narrow_of g tried.score

    -- a round
    round_stops : is_last_round m narrowed ≡ true → Way tried.solves (in_round g m c) (in_final narrowed (m + 1) (c + tried.solves))
    unfolding trial_of
    round_stops e = rw e at (trial_leads u d Round g (bandwidth_at u (aim_of g)) m c out refl refl some)

    round_goes : is_last_round m narrowed ≡ false → Way tried.solves (in_round g m c) (in_round narrowed (m + 1) (c + tried.solves))
    unfolding trial_of
    round_goes e = rw e at (trial_leads u d Round g (bandwidth_at u (aim_of g)) m c out refl refl some)

  module _ (lo hi : Float) where
    -- the state that beginning sets up
    abbrev pub begun : JobState
    begun = start_at u First (start_of lo hi) (bandwidth_at u (start_of lo hi).c) 0 0 out

    abbrev opened : Search
    opened = opened_of u d (start_of lo hi)

    open_leads : Way opened.solves begun (in_round opened.bracket 2 opened.solves)
    unfolding opened_of
    open_leads = let g = start_of lo hi in rw zero-add at (leads_then (first_leads g 0 0) (second_leads (first_of g (trial g.c).score) g.d 1 (0 + (trial g.c).solves)))

    abbrev search_at : Bracket → Bool → ℕ → Search
    search_at g b c = record { bracket = g; over = b; solves = c }

    -- rounds to go, from a search that is not over
    abbrev rounds : ℕ → Search → Search
    rounds k s = turns (round_of u d) 0 k s

    -- before the final fit after the search s, of so many trials
    abbrev Found : Search → ℕ → Type 0
    Found s m = Way s.solves begun (in_final s.bracket m s.solves)

    abbrev made : ℕ → Bracket → ℕ → ℕ
    made k g c = length (loop_trials trial k (variables_of g c))

    module _ (g : Bracket) (m c : ℕ) (p : Way c begun (in_round g m c)) where
      abbrev solves_then : ℕ
      solves_then = c + (tried g m c).solves

      -- the loop is left after this round
      leaves : is_last_round m (narrowed g m c) ≡ true → Found (search_at (narrowed g m c) true solves_then) (m + 1)
      leaves e = leads_then p (round_stops g m c e)

      -- the last of 100 rounds
      last_leads : m ≡ 101 → Found (rounds 1 (search_at g false c)) (m + made 1 g c)
      unfolding turns round_of loop_trials
      last_leads e =
          let one : m + made 1 g c ≡ m + 1 = either (λ (l : List Scored). m + length (tried_in trial (variables_of g c) ∷ l) ≡ m + 1) (le (magnitude (loop_body trial (variables_of g c)).h) (of_bits binary64 0x3CB0_0000_0000_0000)) [] [] refl refl in
          rw one (leaves (rw (eq-eqb m 101 e)))

      -- a round before it
      round_leads : (k : ℕ) → m < 101
          → (Way solves_then begun (in_round (narrowed g m c) (m + 1) solves_then) → Found (rounds (suc k) (search_at (narrowed g m c) false solves_then)) (m + 1 + made (suc k) (narrowed g m c) solves_then))
          → Found (rounds (suc (suc k)) (search_at g false c)) (m + made (suc (suc k)) g c)
      unfolding loop_trials tight_of
      round_leads k h next = rw (front u d (suc k) (search_at g false c), ← body_is trial g c) (unfold round_of in go (tight_of (narrowed g m c)) refl)
        where
          w : Bracket
          w = narrowed g m c

          off : eqb m 101 ≡ false
          off = ne_eqb m 101 (omega arith)

          go : (b : Bool) → tight_of w ≡ b → Found (rounds (suc k) (search_at w b solves_then)) (m + length (tried_in trial (variables_of g c) ∷ cond b [] (loop_trials trial (suc k) (variables_of w solves_then))))
          go true e = rw (left u d (suc k) (search_at w true solves_then) refl) (leaves (rw (off, e)))
          go false e =
              let z : m + 1 + made (suc k) w solves_then ≡ m + suc (made (suc k) w solves_then) = omega arith in
              rw z at (next (leads_then p (round_goes g m c (rw (off, e)))))

    rounds_lead : (k : ℕ) (g : Bracket) (m c : ℕ) → m + k ≡ 101 → Way c begun (in_round g m c) → Found (rounds (suc k) (search_at g false c)) (m + made (suc k) g c)
    rounds_lead zero g m c e p = last_leads g m c p (omega arith)
    rounds_lead (suc k) g m c e p = round_leads g m c p k (omega arith) (λ q. rounds_lead k (narrowed g m c) (m + 1) (solves_then g m c p) (omega arith) q)

    -- the whole search, and as many trials as it makes
    pub golden_leads : Found (golden_of u d lo hi) (length (golden_trials trial lo hi))
    unfolding golden_of range golden_trials opened_of
    golden_leads =
        let g = opened.bracket in
        let c = opened.solves in
        let z : 2 + made 100 g c ≡ suc (suc (made 100 g c)) = omega arith in
        rw (← opened_is u d lo hi) (rw z at (rounds_lead 99 g 2 c refl open_leads))
