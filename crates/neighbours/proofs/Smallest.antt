-- What a walk gives is 01's bandwidth: the k-th smallest of all distances in order, by the root of the k-th smallest sum of squares. Assumes nothing.
use mathlib.Core.Path.{◌≡◌, refl, sym, ap, ◌∙◌, subst}
use mathlib.Core.Bool.{Bool, true, false, not, cond, ◌&&◌}
use mathlib.Core.Logic.{inl, inr}
use mathlib.Core.List.{List, [], ◌∷◌, Permᴰ}
use Prim.Native.Nat.{ℕ, zero, suc, ◌+◌, ◌-◌, ◌*◌, ◌≤◌, ◌<◌, min}
use native.Mathlib.Nat.{not-suc-le-zero, min-eq_left, min-eq_right}
use native.Mathlib.Omega.{arith}
use borrow.Author.Tests.{le-leb, lt-ltb}
use lib.Dec.{T, leb, ltb}
use lib.ListN.{length, get_or, get_or-eq_default}
use lib.Ieee.{Float, nan, binary64, le, lt, fits}
use lib.Ieee.Bits.{is_true}
use lib.Ieee.Fits.{and_i}
use lib.Ieee.Scale.{finite}
use Rattle.real.specs.Reals.{zero64, greater, eps64}
use Rattle.real.proofs.Fold.{kept, related}
use Rattle.real.proofs.Cases.{by_truth}
use Rattle.real.proofs.Values.{untrue}
use Rattle.real.proofs.SignedOrder.{nonneg, apart, nlt→le, here_or_on}
use Rattle.root.specs.Root.{root}
use Rattle.root.proofs.Order.{nonneg_number, root_nonneg, root_order, root_fits, above_root, one_only}
use Rattle.kernel.proofs.DistanceRange.{squares_from_zero}
use Rattle.kernel.proofs.Reaches.{squares_fits, distance_is}
use Rattle.selection.specs.Kth.{at_most, fewer, is_kth, kth_smallest}
use Rattle.selection.proofs.Kths.{kth_enough, kth_below, Found, one, none, kth_found, kth_none}
use Rattle.neighbours.specs.Insert.{insert}
use Rattle.std.specs.Prelude.{Option}
use Rattle.neighbours.specs.Walk.{Walk, unmet, is_own, walk_on, width_of, found_by, squares_from, distance_from, nearest_from}
use Rattle.neighbours.specs.Smallest.{insert_step, all_distances, front_step, met_distances, Ascending, kth_of, greatest_met, kth_nearest}
use Rattle.neighbours.proofs.Inserts.{Number, inserted_up, inserted_perm}
use Rattle.neighbours.proofs.Tallies.{tally_mono}
use Rattle.neighbours.proofs.Amounts.{amount, amount_all, amount_met, amount_count, amount_from, amount_upto, amount_most, amount_every, amount_length, by_at_most, by_below}
use Rattle.neighbours.proofs.Greatest.{from_zero, held, above, Topped, walk_topped, greatest_root, zero_root}

-- ---- all in order are those met, rearranged
module _ (own : Option ℕ) (d : ℕ → Float) where
  one_met : (j : ℕ) (l s : List Float) → Permᴰ l s → Permᴰ (insert_step own d j l) (front_step own d j s)
  unfolding insert_step front_step
  one_met j l s r = go (is_own own j)
    where
      go : (b : Bool) → Permᴰ (cond b l (insert (d j) l)) (cond b s (d j ∷ s))
      go true = r
      go false = Permᴰ.trans (inserted_perm (d j) l) (Permᴰ.cons refl r)

  pub all_met : (m : ℕ) → Permᴰ (all_distances own d m) (met_distances own d m)
  unfolding all_distances met_distances
  all_met m = related (insert_step own d) (front_step own d) 0 m (λ l s. Permᴰ l s) (λ j l s h r. one_met j l s r) [] [] (omega arith) Permᴰ.nil

-- ---- and where they are numbers, they are in ascending order
module _ (own : Option ℕ) (d : ℕ → Float) (m : ℕ) (numbers : (j : ℕ) → j < m → Number (d j)) where
  one_up : (j : ℕ) (l : List Float) → j < m → Ascending l → Ascending (insert_step own d j l)
  unfolding insert_step
  one_up j l h up = go (is_own own j)
    where
      go : (b : Bool) → Ascending (cond b l (insert (d j) l))
      go true = up
      go false = inserted_up (d j) (numbers j h) l up

  all_up : Ascending (all_distances own d m)
  unfolding all_distances
  all_up = kept (insert_step own d) 0 m Ascending one_up [] (omega arith) record { ordered = λ a b h k. absurd (not-suc-le-zero k) }

-- ---- what stands at a place, whatever stands for none
pub get_or_any : (l : List Float) (i : ℕ) (a b : Float) → i < length l → get_or l i a ≡ get_or l i b
get_or_any [] i a b h = absurd (not-suc-le-zero h)
get_or_any (x ∷ l) zero a b h = refl
get_or_any (x ∷ l) (suc i) a b h = get_or_any l i a b (omega arith)

-- ---- the k-th smallest, by amounts
module _ (l : List Float) (k : ℕ) (v : Float) where
  at_most_is : at_most l v ≡ amount (λ x. le x v) l
  unfolding at_most
  at_most_is = sym (amount_count (λ x. le x v) l)

  fewer_is : fewer l v ≡ amount (λ x. lt x v) l
  unfolding fewer
  fewer_is = sym (amount_count (λ x. lt x v) l)

  is_kth_lem : k ≤ amount (λ x. le x v) l → amount (λ x. lt x v) l < k → T (is_kth l k v)
  unfolding is_kth
  is_kth_lem h g =
      rw (at_most_is, fewer_is)
      (and_i (leb k (amount (λ x. le x v) l)) (ltb (amount (λ x. lt x v) l) k) (subst T (sym (le-leb k (amount (λ x. le x v) l) h)) tt) (subst T (sym (lt-ltb (amount (λ x. lt x v) l) k g)) tt))

  module _ (is : T (is_kth l k v)) where
    enough_met : k ≤ amount (λ x. le x v) l
    enough_met = omega (arith, at_most_is, kth_enough l k v is)

    few_below : amount (λ x. lt x v) l < k
    few_below = omega (arith, fewer_is, kth_below l k v is)

-- ---- finite coordinates
module _ (coords : List Float) (east north : Float) (own : Option ℕ) (n : ℕ) (e : T (finite east)) (f : T (finite north)) (ok : (c : ℕ) → c < 2 * n → T (finite (get_or coords c nan))) where
  abbrev s : ℕ → Float
  s = squares_from coords east north

  abbrev d : ℕ → Float
  d = distance_from coords east north

  abbrev w : Walk
  w = walk_on own s 0 n unmet

  abbrev l : List Float
  l = w.sums

  abbrev g : Float
  g = w.greatest

  abbrev all : List Float
  all = all_distances own d n

  -- a sum is a binary64 from 0 up, and a distance its root
  sum_ok : (j : ℕ) → j < n → T (from_zero (s j))
  unfolding squares_from
  sum_ok j h =
      let x = get_or coords (2 * j) nan in
      let y = get_or coords (2 * j + 1) nan in
      and_i (fits binary64 (s j)) (nonneg (s j)) (squares_fits east north x y) (squares_from_zero east north x y e f (ok (2 * j) (omega arith)) (ok (2 * j + 1) (omega arith)))

  root_is : (j : ℕ) → d j ≡ root (s j)
  unfolding distance_from squares_from
  root_is j = distance_is east north (get_or coords (2 * j) nan) (get_or coords (2 * j + 1) nan)

  distance_ok : (j : ℕ) → j < n → T (from_zero (d j))
  distance_ok j h =
      let t = sum_ok j h in
      rw (root_is j) (and_i (fits binary64 (root (s j))) (nonneg (root (s j))) (root_fits (s j) (held (s j) t) (above (s j) t)) (root_nonneg (s j) (above (s j) t)))

  pub all_ascending : Ascending all
  all_ascending = all_up own d n (λ j h. (nonneg_number (d j) (above (d j) (distance_ok j h))).0)

  -- as many sums were met as there are distances
  as_many : length l ≡ length all
  as_many = sym (amount_length l) ∙ amount_met (λ x. true) own s n ∙ sym (amount_all (λ x. true) own d n) ∙ amount_length all

  behind : (b c d : Bool) → (T c → T d) → T (b && c) → T (b && d)
  behind true c d h t = h t
  behind false c d h t = absurd t

  -- every distance in order is a binary64 from 0 up
  all_from_zero : (c : ℕ) → c < length all → T (from_zero (get_or all c nan))
  all_from_zero c h =
      let a = amount_all from_zero own d n in
      let b = amount_all (λ x. true) own d n in
      let k = tally_mono (λ j. not (is_own own j) && true) (λ j. not (is_own own j) && from_zero (d j)) n (λ j i t. behind (not (is_own own j)) true (from_zero (d j)) (λ _. distance_ok j i) t) in
      amount_every from_zero all (omega (arith, amount_length all)) c h

  -- ---- a sum that is the m-th smallest: its root is the m-th smallest distance
  module _ (v : Float) (t : T (from_zero v)) where
    abbrev r : Float
    r = root v

    -- as many distances are at most the root as sums are at most v, or more
    lifted : amount (λ x. le x v) l ≤ amount (λ x. le x r) all
    lifted =
        let a = amount_met (λ x. le x v) own s n in
        let b = amount_all (λ x. le x r) own d n in
        let c = tally_mono (λ j. not (is_own own j) && le (s j) v) (λ j. not (is_own own j) && le (d j) r) n (λ j h u. behind (not (is_own own j)) (le (s j) v) (le (d j) r) (up j h) u) in
        omega arith
      where
        up : (j : ℕ) → j < n → T (le (s j) v) → T (le (d j) r)
        up j h u = let o = sum_ok j h in rw (root_is j) (root_order (s j) v (held (s j) o) (held v t) (above (s j) o) (above v t) u)

    -- and as many are below it as sums are below v, or fewer
    lowered : amount (λ x. lt x r) all ≤ amount (λ x. lt x v) l
    lowered =
        let a = amount_met (λ x. lt x v) own s n in
        let b = amount_all (λ x. lt x r) own d n in
        let c = tally_mono (λ j. not (is_own own j) && lt (d j) r) (λ j. not (is_own own j) && lt (s j) v) n (λ j h u. behind (not (is_own own j)) (lt (d j) r) (lt (s j) v) (down j h) u) in
        omega arith
      where
        down : (j : ℕ) → j < n → T (lt (d j) r) → T (lt (s j) v)
        down j h u =
            let o = sum_ok j h in
            by_truth (lt (s j) v) (λ z. z)
            (λ z.
            absurd
            (apart (root (s j)) r (subst (λ (y : Float). T (lt y r)) (root_is j) u)
            (root_order v (s j) (held v t) (held (s j) o) (above v t) (above (s j) o) (nlt→le (s j) v (nonneg_number (s j) (above (s j) o)).0 (nonneg_number v (above v t)).0 z))))

    the_kth : (m : ℕ) → T (is_kth l m v) → get_or all (m - 1) zero64 ≡ r
    the_kth m is =
        let c = m - 1 in
        let enough = enough_met l m v is in
        let few = few_below l m v is in
        let within : c < length all = omega (arith, lifted, amount_most (λ x. le x r) all) in
        let q = root_nonneg v (above v t) in
        let number = (nonneg_number r q).0 in
        let x = get_or all c nan in
        let o = all_from_zero c within in
        get_or_any all c zero64 nan within
        ∙ one_only x r (held x o) (root_fits v (held v t) (above v t)) (above x o) q
        (by_at_most all all_ascending c within r number (omega (arith, lifted)))
        (by_below all all_ascending c within r number (omega (arith, lowered)))

  -- ---- there is a k-th smallest sum where k were met
  in_order : List Float
  in_order = all_distances own s n

  top : Topped w
  top = walk_topped own s n sum_ok

  some_kth : (k : ℕ) → 1 ≤ k → k ≤ length l → T (is_kth l k (get_or in_order (k - 1) nan))
  unfolding in_order
  some_kth k o h =
      let up = all_up own s n (λ j i. (nonneg_number (s j) (above (s j) (sum_ok j i))).0) in
      let c = k - 1 in
      let y = get_or in_order c nan in
      let same : (p : Float → Bool) → amount p l ≡ amount p in_order = λ p. amount_met p own s n ∙ sym (amount_all p own s n) in
      let long : length l ≡ length in_order = sym (amount_length l) ∙ same (λ x. true) ∙ amount_length in_order in
      let a : k ≤ amount (λ x. le x y) in_order = amount_from (λ x. le x y) in_order k (omega arith) (λ j i. is_true (le (get_or in_order j nan) y) (up.ordered j c (omega arith) (omega arith))) in
      let b : amount (λ x. lt x y) in_order ≤ c = amount_upto (λ x. lt x y) in_order c (λ j i z. untrue (lt (get_or in_order j nan) y) (λ u. apart (get_or in_order j nan) y u (up.ordered c j i z))) in
      is_kth_lem l k y (omega (arith, same (λ x. le x y))) (omega (arith, same (λ x. lt x y)))

  -- the sum by which the bandwidth is found
  abbrev chosen : ℕ → Float
  chosen k = kth_smallest l k g

  record Chosen (k : ℕ) : Type 0 where
    from_zero_lem : T (from_zero (chosen k))
    kth : kth_of k all ≡ root (chosen k)

  -- k were met
  many : (k : ℕ) → 1 ≤ k → k ≤ length l → Chosen k
  many k o h = go (kth_found l k g)
    where
      go : Found l k g (chosen k) → Chosen k
      go (none a b) = absurd (subst T (a (get_or in_order (k - 1) nan)) (some_kth k o h))
      go (one j i is t) =
          let z : T (from_zero (chosen k)) = subst (λ (x : Float). T (from_zero x)) (sym is) (amount_every from_zero l top.each j i) in
          let m : min k (length all) ≡ k = min-eq_left (omega (arith, as_many)) in
          record { from_zero_lem = z; kth = ap (λ (c : ℕ). get_or all (c - 1) zero64) m ∙ the_kth (chosen k) z k t }

  -- fewer, but some
  fewer_met : (k : ℕ) → 0 < length l → length l < k → Chosen k
  fewer_met k o h =
      let is : g ≡ chosen k = kth_none l k g h in
      let last : T (is_kth l (length l) g) = is_kth_lem l (length l) g top.most (top.met o) in
      let m : min k (length all) ≡ length l = min-eq_right (omega (arith, as_many)) ∙ sym as_many in
      record {
        from_zero_lem = subst (λ (x : Float). T (from_zero x)) is top.from_zero_lem;
        kth = ap (λ (c : ℕ). get_or all (c - 1) zero64) m ∙ the_kth g top.from_zero_lem (length l) last ∙ ap root is;
      }

  -- nobody
  nobody_met : (k : ℕ) → 1 ≤ k → length l ≡ 0 → Chosen k
  nobody_met k o h =
      let is : g ≡ chosen k = kth_none l k g (omega arith) in
      let at : zero64 ≡ chosen k = sym (top.none h) ∙ is in
      record {
        from_zero_lem = subst (λ (x : Float). T (from_zero x)) is top.from_zero_lem;
        kth = get_or-eq_default all zero64 (omega (arith, as_many)) ∙ zero_root ∙ ap root at;
      }

  the_chosen : (k : ℕ) → 1 ≤ k → Chosen k
  the_chosen k o =
      elim (here_or_on (length l) k) [
        | inr h ↦ many k o h
        | inl h ↦ elim (here_or_on 0 (length l)) [ inl p ↦ fewer_met k p h | inr p ↦ nobody_met k o (omega arith) ]
      ]

  pub nearest_is_kth : (k : ℕ) → 1 ≤ k → nearest_from coords n east north own k ≡ kth_nearest own d n k
  unfolding nearest_from found_by width_of kth_nearest
  nearest_is_kth k o =
      let c = the_chosen k o in
      let v = chosen k in
      let top-is = greatest_root own s d n sum_ok root_is in
      sym
      (ap (λ (b : Float). cond (lt zero64 b) b (greater (greatest_met own d n) eps64)) c.kth
      ∙ ap (λ (b : Bool). cond b (root v) (greater (greatest_met own d n) eps64)) (above_root v (held v c.from_zero_lem) (above v c.from_zero_lem))
      ∙ ap (λ (x : Float). cond (lt zero64 v) (root v) (greater x eps64)) top-is)
