-- The point that the golden section finds is that of the earliest trial whose score is at most that of every trial.
use mathlib.Core.Path.{◌≡◌, refl, ap, subst, subst⁻¹, ◌∙◌}
use mathlib.Core.List.{List, [], ◌∷◌, ◌++◌, append_assoc, append-nil}
use mathlib.Core.Bool.{Bool, true, false, cond, not}
use mathlib.Core.Logic.{◌⊎◌, inl, inr}
use Prim.Native.Nat.{ℕ, zero, suc}
use lib.Dec.{T, T_not}
use lib.Ieee.{Float, binary64, lt, le, is_nan, of_bits}
use Rattle.claims.specs.Words.{magnitude, Trial, Variables, loop_body, loop_for, before_loop}
use Rattle.claims.proofs.Laws.{apart, le_tr, le_total, lt→le, nlt→le, lesser_is}
use Rattle.claims.specs.Whole.{Scored, tried_in, loop_trials, golden_trials, All, Least, Earliest}

-- ---- lists

all_map : {P Q : Scored → Type 0} → ((t : Scored) → P t → Q t) → (l : List Scored) → All P l → All Q l
all_map f [] h = tt
all_map f (t ∷ l) h = (f t h.0, all_map f l h.1)

all_append : (P : Scored → Type 0) (l k : List Scored) → All P l → All P k → All P (l ++ k)
all_append P [] k h q = q
all_append P (t ∷ l) k h q = (h.0, all_append P l k h.1 q)

all_at : (P : Scored → Type 0) (l : List Scored) (t : Scored) (k : List Scored) → All P (l ++ (t ∷ k)) → P t
all_at P [] t k h = h.0
all_at P (w ∷ l) t k h = all_at P l t k h.1

-- ---- scores

abbrev Num : Float → Type 0
Num x = T (not (is_nan x))

self : (x : Float) → Num x → T (le x x)
self x n = go (le_total x x n n)
  where
    go : T (le x x) ⊎ T (le x x) → T (le x x)
    go (inl h) = h
    go (inr h) = h

-- ---- the best trial so far

-- t is the best of l, and those before it are strictly worse
record Kept (t : Scored) (l : List Scored) : Type 0 where
  before : List Scored
  behind : List Scored
  place : l ≡ before ++ (t ∷ behind)
  least : Least t l
  worse : All (λ (w : Scored). T (le w.score t.score) → ⊥) before
  num : Num t.score

kept_earliest : (t : Scored) (l : List Scored) → Kept t l → Earliest t l
kept_earliest t l k =
    record {
      before = k.before;
      behind = k.behind;
      place = k.place;
      least = k.least;
      first =
          all_map
          (λ w f h. f (all_at (λ (v : Scored). T (le w.score v.score)) k.before t k.behind (subst (Least w) k.place h)))
          k.before k.worse;
    }

holds : {b : Bool} → b ≡ true → T b
holds e = subst⁻¹ T e tt

fails : {b : Bool} → b ≡ false → T (not b)
fails e = subst⁻¹ (λ (z : Bool). T (not z)) e tt

-- one trial more, strictly better
better : (t w : Scored) (l : List Scored) → Num w.score → lt w.score t.score ≡ true → Kept t l → Kept w (l ++ (w ∷ []))
better t w l n e k =
    let h : T (lt w.score t.score) = holds e in
    record {
      before = l;
      behind = [];
      place = refl;
      least =
          all_append (λ (v : Scored). T (le w.score v.score)) l (w ∷ [])
          (all_map (λ v q. le_tr w.score t.score v.score (lt→le w.score t.score h) q) l k.least) (self w.score n, tt);
      worse = all_map (λ v q r. apart w.score t.score h (le_tr t.score v.score w.score q r)) l k.least;
      num = n;
    }

-- or not
no_better : (t w : Scored) (l : List Scored) → Num w.score → lt w.score t.score ≡ false → Kept t l → Kept t (l ++ (w ∷ []))
no_better t w l n e k =
    record {
      before = k.before;
      behind = k.behind ++ (w ∷ []);
      place = ap (λ (z : List Scored). z ++ (w ∷ [])) k.place ∙ append_assoc k.before (t ∷ k.behind) (w ∷ []);
      least = all_append (λ (v : Scored). T (le t.score v.score)) l (w ∷ []) k.least (nlt→le w.score t.score n k.num (fails e), tt);
      worse = k.worse;
      num = k.num;
    }

-- ---- the loop

abbrev pub best_of : Variables → Scored
best_of v = record { point = v.best_x; score = v.best_f }

-- after one trial more, at x
abbrev improved : (Float → Trial) → Variables → Float → Scored
improved f v x = record { point = cond (lt (f x).score v.best_f) x v.best_x; score = cond (lt (f x).score v.best_f) (f x).score v.best_f }

module _ (f : Float → Trial) (num : (x : Float) → Num (f x).score) where
  improved_kept : (v : Variables) (x : Float) (l : List Scored) → Kept (best_of v) l → Kept (improved f v x) (l ++ (record { point = x; score = (f x).score } ∷ []))
  improved_kept v x l k = go (lt (f x).score v.best_f) refl
    where
      w : Scored
      w = record { point = x; score = (f x).score }

      go : (b : Bool) → lt (f x).score v.best_f ≡ b → Kept (record { point = cond b x v.best_x; score = cond b (f x).score v.best_f }) (l ++ (w ∷ []))
      go true e = better (best_of v) w l (num x) e k
      go false e = no_better (best_of v) w l (num x) e k

  body_kept : (v : Variables) (l : List Scored) → Kept (best_of v) l → Kept (best_of (loop_body f v)) (l ++ (tried_in f v ∷ []))
  unfolding loop_body
  body_kept v l k = go (lt v.fc v.fd) refl
    where
      go : (b : Bool) → lt v.fc v.fd ≡ b → Kept (best_of (loop_body f v)) (l ++ (tried_in f v ∷ []))
      go true e = rw e (improved_kept v _ l k)
      go false e = rw e (improved_kept v _ l k)

  loop_kept : (k : ℕ) (v : Variables) (l : List Scored) → Kept (best_of v) l → Kept (best_of (loop_for f k v)) (l ++ loop_trials f k v)
  unfolding loop_for loop_trials
  loop_kept zero v l h = rw append-nil h
  loop_kept (suc k) v l h = go (le (magnitude w.h) (of_bits binary64 0x3CB0_0000_0000_0000)) (loop_kept k w (l ++ (tried_in f v ∷ [])) one)
    where
      w : Variables
      w = loop_body f v

      one : Kept (best_of w) (l ++ (tried_in f v ∷ []))
      one = body_kept v l h

      go : (b : Bool) → Kept (best_of (loop_for f k w)) ((l ++ (tried_in f v ∷ [])) ++ loop_trials f k w)
          → Kept (best_of (cond b w (loop_for f k w))) (l ++ (tried_in f v ∷ cond b [] (loop_trials f k w)))
      go true r = one
      go false r = rw append_assoc at r

  two_kept : (lo hi : Float) → let v = before_loop f lo hi in Kept (best_of v) (record { point = v.c; score = v.fc } ∷ record { point = v.d; score = v.fd } ∷ [])
  two_kept lo hi = rw (lesser_is x y (num _) (num _)) (go (le x y) refl (le_total x y (num _) (num _)))
    where
      c : Float
      c = (before_loop f lo hi).c

      d : Float
      d = (before_loop f lo hi).d

      x : Float
      x = (f c).score

      y : Float
      y = (f d).score

      u : Scored
      u = record { point = c; score = x }

      v : Scored
      v = record { point = d; score = y }

      go : (b : Bool) → le x y ≡ b → T (le x y) ⊎ T (le y x) → Kept (record { point = cond b c d; score = cond b x y }) (u ∷ v ∷ [])
      go true e z = record { before = []; behind = v ∷ []; place = refl; least = (self x (num c), (holds e, tt)); worse = tt; num = num c }
      go false e (inl h) = absurd (T_not (le x y) (fails e) h)
      go false e (inr h) = record { before = u ∷ []; behind = []; place = refl; least = (h, (self y (num d), tt)); worse = (T_not (le x y) (fails e), tt); num = num d }

  pub golden_best : (lo hi : Float) → Earliest (best_of (loop_for f 100 (before_loop f lo hi))) (golden_trials f lo hi)
  unfolding golden_trials
  golden_best lo hi = kept_earliest _ _ (loop_kept 100 (before_loop f lo hi) _ (two_kept lo hi))
