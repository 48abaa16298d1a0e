-- How many numbers of a list pass a test: of all distances in order and of those that a walk met, by their pantries; and what an amount says of a list in order. Assumes nothing.
use mathlib.Core.Path.{◌≡◌, refl, sym, ap, ◌∙◌, subst}
use mathlib.Core.Bool.{Bool, true, false, not, cond, ◌&&◌}
use mathlib.Core.List.{List, [], ◌∷◌, ◌++◌}
use Prim.Native.Nat.{ℕ, zero, suc, ◌+◌, ◌≤◌, ◌<◌}
use native.Mathlib.Nat.{not-suc-le-zero}
use native.Mathlib.Numerals.{add-one}
use native.Mathlib.Omega.{arith}
use lib.Dec.{T, T_not}
use lib.ListN.{length, take, drop, get_or, take-append-drop}
use lib.Ieee.{Float, nan, le, lt, is_nan}
use lib.Ieee.Bits.{is_true}
use Rattle.real.proofs.Fold.{related}
use Rattle.real.proofs.Cases.{by_truth}
use Rattle.real.proofs.Values.{untrue}
use Rattle.real.proofs.SignedOrder.{le_tr, apart, nlt→le, number_left}
use Rattle.std.specs.List.{count_by}
use Rattle.std.proofs.lemmas.List.Recursion.{is_count_by}
use Rattle.neighbours.specs.Insert.{rank_of, insert}
use Rattle.std.specs.Prelude.{Option}
use Rattle.neighbours.specs.Walk.{Walk, unmet, meet, is_own, pass, walk_on}
use Rattle.neighbours.specs.Smallest.{insert_step, all_distances, Ascending}
use Rattle.neighbours.proofs.Tallies.{tally_step, tally}
use Rattle.neighbours.proofs.Inserts.{ins_is}

unfoldable pub amount : (Float → Bool) → List Float → ℕ
amount p [] = 0
amount p (x ∷ l) = cond (p x) (suc (amount p l)) (amount p l)

module _ (p : Float → Bool) where
  pub amount_append : (a b : List Float) → amount p (a ++ b) ≡ amount p a + amount p b
  unfolding amount
  amount_append [] b = omega arith
  amount_append (x ∷ a) b = go (p x) (amount_append a b)
    where
      go : (c : Bool) → amount p (a ++ b) ≡ amount p a + amount p b → cond c (suc (amount p (a ++ b))) (amount p (a ++ b)) ≡ cond c (suc (amount p a)) (amount p a) + amount p b
      go true e = omega arith
      go false e = e

  amount_cons : (x : Float) (l : List Float) → amount p (x ∷ l) ≡ cond (p x) (suc (amount p l)) (amount p l)
  unfolding amount
  amount_cons x l = refl

  pub amount_snoc : (l : List Float) (x : Float) → amount p (l ++ x ∷ []) ≡ amount p l + cond (p x) 1 0
  unfolding amount
  amount_snoc l x = amount_append l (x ∷ [])

  amount_inserted : (x : Float) (l : List Float) → amount p (insert x l) ≡ cond (p x) (suc (amount p l)) (amount p l)
  amount_inserted x l =
      let q = rank_of x l (length l) in
      let parts : amount p (take q l) + amount p (drop q l) ≡ amount p l = sym (amount_append (take q l) (drop q l)) ∙ ap (amount p) (take-append-drop q l) in
      ap (amount p) (ins_is x l q refl) ∙ amount_append (take q l) (x ∷ drop q l) ∙ ap (λ (c : ℕ). amount p (take q l) + c) (amount_cons x (drop q l)) ∙ go (p x) (amount p (take q l)) (amount p (drop q l)) (amount p l) parts
    where
      go : (c : Bool) (a b s : ℕ) → a + b ≡ s → a + cond c (suc b) b ≡ cond c (suc s) s
      go true a b s e = omega arith
      go false a b s e = e

  -- all distances, by their pantries
  module _ (own : Option ℕ) (d : ℕ → Float) where
    amount_joined : (j : ℕ) (l : List Float) (c : ℕ) → amount p l ≡ c → amount p (insert_step own d j l) ≡ tally_step (λ q. not (is_own own q) && p (d q)) j c
    unfolding insert_step tally_step
    amount_joined j l c e = go (is_own own j)
      where
        inner : (b : Bool) → cond b (suc (amount p l)) (amount p l) ≡ cond b (c + 1) c
        inner true = ap suc e ∙ sym (add-one c)
        inner false = e

        go : (b : Bool) → amount p (cond b l (insert (d j) l)) ≡ cond (not b && p (d j)) (c + 1) c
        go true = e
        go false = amount_inserted (d j) l ∙ inner (p (d j))

    pub amount_all : (m : ℕ) → amount p (all_distances own d m) ≡ tally (λ q. not (is_own own q) && p (d q)) m
    unfolding all_distances tally amount
    amount_all m = related (insert_step own d) (tally_step (λ q. not (is_own own q) && p (d q))) 0 m (λ l c. amount p l ≡ c) (λ j l c h e. amount_joined j l c e) [] 0 (omega arith) refl

    -- and those that a walk met
    amount_passed : (j : ℕ) (w : Walk) (c : ℕ) → amount p w.sums ≡ c → amount p (pass own d j w).sums ≡ tally_step (λ q. not (is_own own q) && p (d q)) j c
    unfolding pass meet tally_step
    amount_passed j w c e = go (is_own own j)
      where
        inner : (b : Bool) → amount p w.sums + cond b 1 0 ≡ cond b (c + 1) c
        inner true = omega arith
        inner false = omega arith

        go : (b : Bool) → amount p (cond b w (meet (d j) w)).sums ≡ cond (not b && p (d j)) (c + 1) c
        go true = e
        go false = amount_snoc w.sums (d j) ∙ inner (p (d j))

    pub amount_met : (m : ℕ) → amount p (walk_on own d 0 m unmet).sums ≡ tally (λ q. not (is_own own q) && p (d q)) m
    unfolding walk_on tally amount
    amount_met m = related (pass own d) (tally_step (λ q. not (is_own own q) && p (d q))) 0 m (λ w c. amount p w.sums ≡ c) (λ j w c h e. amount_passed j w c e) unmet 0 (omega arith) refl

  -- as std counts
  pub amount_count : (l : List Float) → amount p l ≡ count_by p l
  unfolding amount
  amount_count l = is_count_by (amount p) p refl (λ x l. one (p x) (amount p l)) l
    where
      one : (b : Bool) (n : ℕ) → cond b (suc n) n ≡ cond b (1 + n) n
      one true n = omega arith
      one false n = refl

  -- none from place f on passes
  pub amount_upto : (l : List Float) (f : ℕ) → ((j : ℕ) → f ≤ j → j < length l → p (get_or l j nan) ≡ false) → amount p l ≤ f
  unfolding amount
  amount_upto [] f h = omega arith
  amount_upto (x ∷ l) zero h =
      let e : p x ≡ false = h 0 (omega arith) (omega arith) in
      rw e (amount_upto l 0 (λ j a b. h (suc j) (omega arith) (omega arith)))
  amount_upto (x ∷ l) (suc f) h = go (p x) (amount_upto l f (λ j a b. h (suc j) (omega arith) (omega arith)))
    where
      go : (c : Bool) → amount p l ≤ f → cond c (suc (amount p l)) (amount p l) ≤ suc f
      go true k = omega arith
      go false k = omega arith

  -- all before place f pass
  pub amount_from : (l : List Float) (f : ℕ) → f ≤ length l → ((j : ℕ) → j < f → p (get_or l j nan) ≡ true) → f ≤ amount p l
  unfolding amount
  amount_from l zero k h = omega arith
  amount_from [] (suc f) k h = absurd (not-suc-le-zero k)
  amount_from (x ∷ l) (suc f) k h =
      let e : p x ≡ true = h 0 (omega arith) in
      let r = amount_from l f (omega arith) (λ j a. h (suc j) (omega arith)) in
      rw e (omega arith)

  pub amount_most : (l : List Float) → amount p l ≤ length l
  amount_most l = amount_upto l (length l) (λ j a b. absurd (not-suc-le-zero {n = 0} (omega arith)))

  -- as many as there are
  pub amount_every : (l : List Float) → length l ≤ amount p l → (c : ℕ) → c < length l → T (p (get_or l c nan))
  unfolding amount
  amount_every [] h c k = absurd (not-suc-le-zero k)
  amount_every (x ∷ l) h c k = go (p x) refl (amount_every l) h c k
    where
      go : (b : Bool) → p x ≡ b → (length l ≤ amount p l → (c : ℕ) → c < length l → T (p (get_or l c nan)))
          → suc (length l) ≤ cond b (suc (amount p l)) (amount p l) → (c : ℕ) → c < suc (length l) → T (p (get_or (x ∷ l) c nan))
      go true e again m zero n = subst T (sym e) tt
      go true e again m (suc c) n = again (omega arith) c (omega arith)
      go false e again m c n = absurd (not-suc-le-zero {n = 0} (omega (arith, amount_most l)))

pub amount_mono : (p q : Float → Bool) → ((x : Float) → T (p x) → T (q x)) → (l : List Float) → amount p l ≤ amount q l
unfolding amount
amount_mono p q h [] = omega arith
amount_mono p q h (x ∷ l) = go (p x) (q x) (h x) (amount_mono p q h l)
  where
    go : (b c : Bool) → (T b → T c) → amount p l ≤ amount q l → cond b (suc (amount p l)) (amount p l) ≤ cond c (suc (amount q l)) (amount q l)
    go true true f r = omega arith
    go true false f r = absurd (f tt)
    go false true f r = omega arith
    go false false f r = r

pub amount_length : (l : List Float) → amount (λ x. true) l ≡ length l
unfolding amount
amount_length [] = refl
amount_length (x ∷ l) = ap suc (amount_length l)

-- ---- the q-th number of a list in order, by amounts
module _ (l : List Float) (up : Ascending l) (f : ℕ) (h : f < length l) (r : Float) (n : T (not (is_nan r))) where
  abbrev x : Float
  x = get_or l f nan

  pub by_at_most : f < amount (λ y. le y r) l → T (le x r)
  by_at_most k = by_truth (le x r) (λ t. t) (λ t. absurd (none_above t))
    where
      none_above : T (not (le x r)) → ⊥
      none_above t =
          not-suc-le-zero {n = 0}
          (omega (arith, amount_upto (λ y. le y r) l f (λ j a b. untrue (le (get_or l j nan) r) (λ u. T_not (le x r) t (le_tr x (get_or l j nan) r (up.ordered f j a b) u)))))

  pub by_below : amount (λ y. lt y r) l ≤ f → T (le r x)
  by_below k = nlt→le x r (number_left x x (up.ordered f f (omega arith) h)) n (by_truth (not (lt x r)) (λ t. t) (λ t. absurd (all_below t)))
    where
      twice : (b : Bool) → T (not (not b)) → T b
      twice true u = tt
      twice false u = u

      lower : (j : ℕ) → j < suc f → T (lt x r) → T (lt (get_or l j nan) r)
      lower j a t =
          let y = get_or l j nan in
          let under : T (le y x) = up.ordered j f (omega arith) h in
          by_truth (lt y r) (λ u. u) (λ u. absurd (apart x r t (le_tr r y x (nlt→le y r (number_left y x under) n u) under)))

      all_below : T (not (not (lt x r))) → ⊥
      all_below t = not-suc-le-zero {n = 0} (omega (arith, amount_from (λ y. lt y r) l (suc f) (omega arith) (λ j a. is_true (lt (get_or l j nan) r) (lower j a (twice (lt x r) t)))))
