-- Insertion into a list in ascending order keeps it in order, and loses nothing. Assumes nothing.
use mathlib.Core.Path.{◌≡◌, refl, sym, ap, ◌∙◌, subst}
use mathlib.Core.Bool.{Bool, true, false, not, cond}
use mathlib.Core.Logic.{◌⊎◌, inl, inr}
use mathlib.Core.List.Permᴰ
use mathlib.Core.List.{List, ◌∷◌, ◌++◌, Permᴰ}
use Prim.Native.Nat.{ℕ, zero, suc, ◌+◌, ◌-◌, ◌≤◌, ◌<◌}
use native.Mathlib.Nat.{not-suc-le-zero, eq-or-lt_of_le}
use native.Mathlib.Omega.{arith}
use lib.Dec.{T}
use lib.ListN.{length, take, drop, get_or, length-append, take-append-drop, get_or-append}
use lib.Seq.{length-take-le, get_or_at, get_or-take, get_or-drop, get_or-append-add}
use lib.Ieee.{Float, nan, le, is_nan}
use Rattle.real.proofs.SignedOrder.{le_tr, le_total, number_left, here_or_on}
use Rattle.neighbours.specs.Insert.{rank_of, insert}
use Rattle.neighbours.specs.Smallest.{Ascending}

abbrev pub Number : Float → Type 0
Number x = T (not (is_nan x))

pub le_itself : (x : Float) → Number x → T (le x x)
le_itself x n = elim (le_total x x n n) [ inl h ↦ h | inr h ↦ h ]

-- ---- the place
module _ (x : Float) (l : List Float) where
  pub rank_within : (n : ℕ) → rank_of x l n ≤ n
  unfolding rank_of
  rank_within zero = omega arith
  rank_within (suc n) = go (le (get_or l n nan) x) (rank_within n)
    where
      go : (b : Bool) → rank_of x l n ≤ n → cond b (suc n) (rank_of x l n) ≤ suc n
      go true h = omega arith
      go false h = omega arith

  -- what stands just before the place is at most x
  rank_before : (n p : ℕ) → rank_of x l n ≡ suc p → T (le (get_or l p nan) x)
  unfolding rank_of
  rank_before zero p e = absurd (not-suc-le-zero {n = 0} (omega arith))
  rank_before (suc n) p e = go (le (get_or l n nan) x) refl e (rank_before n p)
    where
      go : (b : Bool) → le (get_or l n nan) x ≡ b → cond b (suc n) (rank_of x l n) ≡ suc p → (rank_of x l n ≡ suc p → T (le (get_or l p nan) x)) → T (le (get_or l p nan) x)
      go true t q again = let s : n ≡ p = omega arith in subst (λ (i : ℕ). T (le (get_or l i nan) x)) s (subst T (sym t) tt)
      go false t q again = again q

  -- what stands from the place on is not
  rank_after : (n j : ℕ) → rank_of x l n ≤ j → j < n → le (get_or l j nan) x ≡ false
  unfolding rank_of
  rank_after zero j h k = absurd (not-suc-le-zero k)
  rank_after (suc n) j h k = go (le (get_or l n nan) x) refl h (rank_after n j)
    where
      go : (b : Bool) → le (get_or l n nan) x ≡ b → cond b (suc n) (rank_of x l n) ≤ j → (rank_of x l n ≤ j → j < n → le (get_or l j nan) x ≡ false) → le (get_or l j nan) x ≡ false
      go true t q again = absurd (not-suc-le-zero {n = 0} (omega arith))
      go false t q again =
          elim (here_or_on j n) [
            | inl g ↦ again q g
            | inr g ↦ let s : n ≡ j = omega arith in subst (λ (i : ℕ). le (get_or l i nan) x ≡ false) s t
          ]

-- ---- an insertion's numbers
data Where (p : ℕ) : ℕ → Type 0 where
  before : {a : ℕ} → a < p → Where p a
  here : Where p p
  behind : (c : ℕ) → p ≤ c → Where p (suc c)

where_is : (p a : ℕ) → Where p a
where_is p a = go a (here_or_on a p)
  where
    go : (a : ℕ) → (a < p) ⊎ (p ≤ a) → Where p a
    go a (inl h) = before h
    go zero (inr h) = let e : p ≡ 0 = omega arith in subst (λ (i : ℕ). Where p i) e here
    go (suc c) (inr h) =
        elim (eq-or-lt_of_le h) [
          | inl e ↦ subst (λ (i : ℕ). Where p i) e here
          | inr g ↦ behind c (omega arith)
        ]

module _ (x : Float) (l : List Float) (p : ℕ) (h : p ≤ length l) where
  ins_before : (a : ℕ) → a < p → get_or (take p l ++ x ∷ drop p l) a nan ≡ get_or l a nan
  ins_before a k = get_or-append (take p l) (x ∷ drop p l) nan a (omega (arith, length-take-le p l h)) ∙ get_or-take p l a nan k

  ins_here : get_or (take p l ++ x ∷ drop p l) p nan ≡ x
  ins_here = get_or_at (take p l) x (drop p l) nan p (length-take-le p l h)

  ins_behind : (c : ℕ) → p ≤ c → get_or (take p l ++ x ∷ drop p l) (suc c) nan ≡ get_or l c nan
  ins_behind c k =
      let at : suc c ≡ length (take p l) + suc (c - p) = omega (arith, length-take-le p l h) in
      let back : p + (c - p) ≡ c = omega arith in
      ap (λ (i : ℕ). get_or (take p l ++ x ∷ drop p l) i nan) at ∙ get_or-append-add (take p l) (x ∷ drop p l) (suc (c - p)) nan
      ∙ get_or-drop p l (c - p) nan ∙ ap (λ (i : ℕ). get_or l i nan) back

-- ---- order is kept
pub ins_is : (x : Float) (l : List Float) (p : ℕ) → rank_of x l (length l) ≡ p → insert x l ≡ take p l ++ x ∷ drop p l
unfolding insert
ins_is x l p e = ap (λ (q : ℕ). take q l ++ x ∷ drop q l) e

length_inserted : (x : Float) (l : List Float) → length (insert x l) ≡ suc (length l)
unfolding insert
length_inserted x l =
    let p = rank_of x l (length l) in
    let e : length (take p l) + length (drop p l) ≡ length l = sym (length-append (take p l) (drop p l)) ∙ ap length (take-append-drop p l) in
    rw length-append (omega arith)

module _ (x : Float) (n : Number x) (l : List Float) (up : Ascending l) where
  number_at : (c : ℕ) → c < length l → Number (get_or l c nan)
  number_at c h = number_left (get_or l c nan) (get_or l c nan) (up.ordered c c (omega arith) h)

  below_x : (p a : ℕ) → rank_of x l (length l) ≡ p → a < p → p ≤ length l → T (le (get_or l a nan) x)
  below_x zero a e h k = absurd (not-suc-le-zero h)
  below_x (suc p) a e h k = le_tr (get_or l a nan) (get_or l p nan) x (up.ordered a p (omega arith) (omega arith)) (rank_before x l (length l) p e)

  above_x : (c : ℕ) → rank_of x l (length l) ≤ c → c < length l → T (le x (get_or l c nan))
  above_x c h k =
      elim (le_total x (get_or l c nan) n (number_at c k)) [
        | inl g ↦ g
        | inr g ↦ absurd (subst T (rank_after x l (length l) c h k) g)
      ]

  order : (p : ℕ) → rank_of x l (length l) ≡ p → p ≤ length l → (a b : ℕ) → Where p a → Where p b → a ≤ b → b < suc (length l)
      → T (le (get_or (take p l ++ x ∷ drop p l) a nan) (get_or (take p l ++ x ∷ drop p l) b nan))
  order p e h a b (before i) (before j) k m = rw (ins_before x l p h a i, ins_before x l p h b j) (up.ordered a b k (omega arith))
  order p e h a b (before i) here k m = rw (ins_before x l p h a i, ins_here x l p h) (below_x p a e i h)
  order p e h a b (before i) (behind c j) k m = rw (ins_before x l p h a i, ins_behind x l p h c j) (up.ordered a c (omega arith) (omega arith))
  order p e h a b here (before j) k m = absurd (not-suc-le-zero {n = 0} (omega arith))
  order p e h a b here here k m = rw (ins_here x l p h) (le_itself x n)
  order p e h a b here (behind c j) k m = rw (ins_here x l p h, ins_behind x l p h c j) (above_x c (omega arith) (omega arith))
  order p e h a b (behind c i) (before j) k m = absurd (not-suc-le-zero {n = 0} (omega arith))
  order p e h a b (behind c i) here k m = absurd (not-suc-le-zero {n = 0} (omega arith))
  order p e h a b (behind c i) (behind f j) k m = rw (ins_behind x l p h c i, ins_behind x l p h f j) (up.ordered c f (omega arith) (omega arith))

  pub inserted_up : Ascending (insert x l)
  inserted_up =
      let p = rank_of x l (length l) in
      let w = rank_within x l (length l) in
      record {
        ordered = λ a b h k.
            subst (λ (s : List Float). T (le (get_or s a nan) (get_or s b nan))) (sym (ins_is x l p refl))
            (order p refl w a b (where_is p a) (where_is p b) h (subst (λ (i : ℕ). b < i) (length_inserted x l) k));
      }

-- ---- what was inserted, and the others
pub inserted_perm : (x : Float) (l : List Float) → Permᴰ (insert x l) (x ∷ l)
inserted_perm x l =
    let p = rank_of x l (length l) in
    subst (λ (s : List Float). Permᴰ s (x ∷ l)) (sym (ins_is x l p refl))
    (subst (λ (s : List Float). Permᴰ (take p l ++ x ∷ drop p l) (x ∷ s)) (take-append-drop p l) (Permᴰ.middle x (take p l) (drop p l)))
