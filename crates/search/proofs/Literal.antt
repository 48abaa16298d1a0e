-- The search is `golden_section_min` as 000 has it, variable by variable.
use Rattle.std.specs.Prelude.{Result, Ok, Err}
use Rattle.refusal.specs.declared.Refusal.{Refusal}
use mathlib.Core.Path.{◌≡◌, refl, ap, subst⁻¹, ◌∙◌}
use mathlib.Core.Bool.{Bool, true, false, cond, not}
use Prim.Native.Nat.{ℕ, zero, suc, ◌+◌}
use lib.Dec.{T, T_not}
use lib.Ieee.{Float, nan, inf, fin, lt, le, is_nan}
use Rattle.real.specs.Fold.{turns, range}
use Rattle.real.specs.Reals.{lesser}
use Rattle.real.proofs.SignedOrder.{apart, nlt→le}
use Rattle.setup.specs.declared.Setup.{Setup}
use Rattle.setup.specs.Data.{Data}
use Rattle.criterion.specs.Aicc.{score_of}
use Rattle.golden.specs.declared.Bracket.{Bracket}
use Rattle.golden.specs.Golden.{start_of, second_of, aim_of, narrow_of, tight_of}
use Rattle.golden.proofs.Round.{G-is, G2-is, round_000, round_is}
use Rattle.search.specs.declared.Search.{Search}
use Rattle.search.specs.declared.Trial.{Trial}
use Rattle.search.specs.Trial.{trial_of}
use Rattle.search.specs.Search.{round_of, opened_of, golden_of}
use Rattle.search.specs.Literal.{Variables, loop_body, loop_for, before_loop, golden_section_min}

-- a score is no NaN
pub score_num : (c : Result Float Refusal) → T (not (is_nan (score_of c)))
unfolding score_of is_nan
score_num (Ok nan) = tt
score_num (Ok (inf s)) = tt
score_num (Ok (fin s m e)) = tt
score_num (Err r) = tt

-- `fc.min(fd)` is fc where fc ≤ fd, else fd
pub lesser_is : (x y : Float) → T (not (is_nan x)) → T (not (is_nan y)) → lesser x y ≡ cond (le x y) x y
unfolding lesser
lesser_is x y n m = go (lt y x) (le x y) refl refl
  where
    go : (b c : Bool) → lt y x ≡ b → le x y ≡ c → cond b y x ≡ cond c x y
    go true true e f = absurd (apart y x (subst⁻¹ T e tt) (subst⁻¹ T f tt))
    go true false e f = refl
    go false true e f = refl
    go false false e f = absurd (T_not (le x y) (subst⁻¹ (λ (z : Bool). T (not z)) f tt) (nlt→le y x m n (subst⁻¹ (λ (z : Bool). T (not z)) e tt)))

-- the variables of a search
abbrev pub variables_of : Bracket → ℕ → Variables
variables_of g k =
    record { a = g.a; b = g.b; c = g.c; d = g.d; h = g.h; fc = g.fc; fd = g.fd; best_x = g.best; best_f = g.low; solves = k }

-- a round is the loop's body
pub body_is : (f : Float → Trial) (g : Bracket) (k : ℕ) → let t = f (aim_of g) in variables_of (narrow_of g t.score) (k + t.solves) ≡ loop_body f (variables_of g k)
unfolding aim_of round_000 loop_body
body_is f g k = ap (λ (z : Bracket). variables_of z (k + (f (aim_of g)).solves)) (round_is (λ (x : Float). (f x).score) g) ∙ go (lt g.fc g.fd) refl
  where
    go : (b : Bool) → lt g.fc g.fd ≡ b → variables_of (round_000 (λ (x : Float). (f x).score) g) (k + (f (aim_of g)).solves) ≡ loop_body f (variables_of g k)
    go true e = rw (e, ← G2-is)
    go false e = rw (e, ← G-is)

module _ (u : Setup) (d : Data) where
  abbrev score : Float → Trial
  score = trial_of u d

  -- rounds after the loop was left
  pub left : (k : ℕ) (s : Search) → s.over ≡ true → turns (round_of u d) 0 k s ≡ s
  unfolding turns round_of
  left zero s e = refl
  left (suc k) s e = rw (left k s e, e)

  -- the first of the rounds apart
  pub front : (k : ℕ) (s : Search) → turns (round_of u d) 0 (suc k) s ≡ turns (round_of u d) 0 k (round_of u d 0 s)
  unfolding turns round_of
  front zero s = refl
  front (suc k) s = ap (round_of u d (0 + suc k)) (front k s)

  abbrev search_at : Bracket → Bool → ℕ → Search
  search_at g b n = record { bracket = g; over = b; solves = n }

  abbrev after_turns : ℕ → Search → Variables
  after_turns k s = let t = turns (round_of u d) 0 k s in variables_of t.bracket t.solves

  -- the loop goes on, or is left
  goes : (k : ℕ) (g : Bracket) (n : ℕ) (b : Bool) → after_turns k (search_at g false n) ≡ loop_for score k (variables_of g n)
      → after_turns k (search_at g b n) ≡ cond b (variables_of g n) (loop_for score k (variables_of g n))
  goes k g n true h = ap (λ (t : Search). variables_of t.bracket t.solves) (left k (search_at g true n) refl)
  goes k g n false h = h

  loop_is : (k : ℕ) (g : Bracket) (n : ℕ) → after_turns k (search_at g false n) ≡ loop_for score k (variables_of g n)
  unfolding loop_for round_of tight_of
  loop_is zero g n = unfold turns in refl
  loop_is (suc k) g n =
      let t = score (aim_of g) in
      let w = narrow_of g t.score in
      rw (front, ← body_is score g n) (goes k w (n + t.solves) (tight_of w) (loop_is k w (n + t.solves)))

  pub trial_num : (point : Float) → T (not (is_nan (score point).score))
  unfolding trial_of
  trial_num point = score_num _

  -- the lines before the loop
  pub opened_is : (lo hi : Float) → let s = opened_of u d (start_of lo hi) in variables_of s.bracket s.solves ≡ before_loop score lo hi
  unfolding opened_of start_of second_of
  opened_is lo hi = go (le x y) refl
    where
      x : Float
      x = (score (start_of lo hi).c).score

      y : Float
      y = (score (start_of lo hi).d).score

      go : (b : Bool) → le x y ≡ b → let s = opened_of u d (start_of lo hi) in variables_of s.bracket s.solves ≡ before_loop score lo hi
      go true e = rw (← G2-is, ← G-is, lesser_is x y (trial_num _) (trial_num _), e)
      go false e = rw (← G2-is, ← G-is, lesser_is x y (trial_num _) (trial_num _), e)

  -- every variable when the loop is left
  pub loop_literal : (lo hi : Float) → let s = golden_of u d lo hi in variables_of s.bracket s.solves ≡ loop_for score 100 (before_loop score lo hi)
  unfolding golden_of range opened_of
  loop_literal lo hi = let s = opened_of u d (start_of lo hi) in loop_is 100 s.bracket s.solves ∙ ap (loop_for score 100) (opened_is lo hi)

  -- the point found, and the solves
  pub golden_literal : (lo hi : Float) → le hi lo ≡ false → ◌≡◌ {A = Float × ℕ} ((golden_of u d lo hi).bracket.best, (golden_of u d lo hi).solves) (golden_section_min score lo hi)
  unfolding golden_section_min
  golden_literal lo hi h = rw h (ap (λ (v : Variables). (v.best_x, v.solves)) (loop_literal lo hi))
