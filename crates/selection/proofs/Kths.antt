-- The m-th smallest number: an equal one is it too, no other is, and `kth_smallest` is it where there is one. Assumes nothing.
use mathlib.Core.Path.{◌≡◌, refl, sym, ◌∙◌, subst}
use mathlib.Core.Bool.{Bool, true, false, not, cond}
use mathlib.Core.List.{List, [], ◌∷◌}
use Prim.Native.Nat.{ℕ, zero, suc, ◌≤◌, ◌<◌}
use native.Mathlib.Nat.{not-suc-le-zero}
use native.Mathlib.Omega.{arith}
use borrow.Author.Tests.{lt-leb}
use lib.Dec.{T, leb, ltb, leb→le, ltb→lt}
use lib.ListN.{length, get_or}
use lib.Ieee.{Float, nan, le, lt, is_nan}
use lib.Ieee.Fits.{and_l, and_r}
use Rattle.std.specs.List.{count_by, fold}
use Rattle.std.proofs.lemmas.List.Sums.{count_by-le-length}
use Rattle.real.proofs.Cases.{by_truth}
use Rattle.real.proofs.Rounding.{same_truth}
use Rattle.real.proofs.SignedOrder.{le_tr, apart, nlt→le, lt→le, number_left, number_right}
use Rattle.selection.specs.Kth.{at_most, fewer, is_kth, kth_step, kth_smallest}
use Rattle.selection.proofs.Tallies.{count_mono, count_more, count_same}

-- neither of two numbers is below the other
pub record Level (x y : Float) : Type 0 where
  pub up : T (le x y)
  pub down : T (le y x)

-- ---- what is below, or at most, one of two level numbers
below_at_most : (x v w : Float) → T (lt x v) → T (le v w) → T (lt x w)
below_at_most x v w h k =
    by_truth (lt x w) (λ t. t) (λ t. absurd (apart x v h (le_tr v w x k (nlt→le x w (number_left x v (lt→le x v h)) (number_right v w k) t))))

at_most_below : (x w v : Float) → T (le x w) → T (lt w v) → T (lt x v)
at_most_below x w v h k =
    by_truth (lt x v) (λ t. t) (λ t. absurd (apart w v k (le_tr v x w (nlt→le x v (number_left x w h) (number_right w v (lt→le w v k)) t) h)))

module _ {v w : Float} (e : Level v w) where
  level_le : (x : Float) → le x v ≡ le x w
  level_le x = same_truth (le x v) (le x w) (λ t. le_tr x v w t e.up) (λ t. le_tr x w v t e.down)

  pub level_lt : (x : Float) → lt x v ≡ lt x w
  level_lt x = same_truth (lt x v) (lt x w) (λ t. below_at_most x v w t e.up) (λ t. below_at_most x w v t e.down)

module _ (s : List Float) (m : ℕ) where
  -- an equal number is the m-th smallest too
  kth_level : {v w : Float} → Level v w → is_kth s m v ≡ is_kth s m w
  unfolding is_kth at_most fewer
  kth_level {v} {w} e =
      let a : count_by (λ x. le x v) s ≡ count_by (λ x. le x w) s = count_same (λ x. le x v) (λ x. le x w) s (level_le e) in
      let b : count_by (λ x. lt x v) s ≡ count_by (λ x. lt x w) s = count_same (λ x. lt x v) (λ x. lt x w) s (level_lt e) in
      rw (a, b)

  module _ (v : Float) (k : T (is_kth s m v)) where
    pub kth_enough : m ≤ at_most s v
    unfolding is_kth
    kth_enough = leb→le m (at_most s v) (and_l (leb m (at_most s v)) (ltb (fewer s v) m) k)

    pub kth_below : fewer s v < m
    unfolding is_kth
    kth_below = ltb→lt (fewer s v) m (and_r (leb m (at_most s v)) (ltb (fewer s v) m) k)

    -- one of the numbers is level with it
    kth_met : (j : ℕ) × (j < length s) × Level (get_or s j nan) v
    unfolding at_most fewer
    kth_met =
        let a = kth_enough in
        let b = kth_below in
        let f = count_more (λ x. le x v) (λ x. lt x v) s (omega arith) in
        let x = get_or s f.0 nan in
        (f.0, f.1, record { up = f.2; down = nlt→le x v (number_left x v f.2) (number_right x v f.2) f.3 })

    kth_number : T (not (is_nan v))
    kth_number = let f = kth_met in number_right (get_or s f.0 nan) v f.2.up

  -- of two that are the m-th smallest none is above the other
  not_above : (v w : Float) → T (is_kth s m v) → T (is_kth s m w) → T (le v w)
  unfolding at_most fewer
  not_above v w h k = by_truth (lt w v) (λ t. absurd (clash t)) (λ t. nlt→le w v (kth_number w k) (kth_number v h) t)
    where
      clash : T (lt w v) → ⊥
      clash t =
          let a = kth_enough w k in
          let b = kth_below v h in
          let c = count_mono (λ x. le x w) (λ x. lt x v) s (λ x u. at_most_below x w v u t) in
          not-suc-le-zero {n = 0} (omega arith)

  pub kth_only : (v w : Float) → T (is_kth s m v) → T (is_kth s m w) → Level v w
  kth_only v w h k = record { up = not_above v w h k; down = not_above w v k h }

  -- none of fewer than m numbers is
  pub kth_few : length s < m → (v : Float) → is_kth s m v ≡ false
  unfolding is_kth at_most
  kth_few h v = let a = count_by-le-length (λ x. le x v) s in rw (lt-leb m (at_most s v) (omega arith))

  -- ---- `kth_smallest`
  -- one of the numbers that is the m-th smallest; or none is, and g is given
  pub data Found (g w : Float) : Type 0 where
    one : (j : ℕ) → j < length s → w ≡ get_or s j nan → T (is_kth s m w) → Found g w
    none : ((v : Float) → is_kth s m v ≡ false) → w ≡ g → Found g w

  -- the same of the numbers r
  data Among (r : List Float) (g w : Float) : Type 0 where
    one : (j : ℕ) → j < length r → w ≡ get_or r j nan → T (is_kth s m w) → Among r g w
    none : ((j : ℕ) → j < length r → is_kth s m (get_or r j nan) ≡ false) → w ≡ g → Among r g w

  among : (r : List Float) (g : Float) → Among r g (fold (kth_step s m) g r)
  unfolding kth_step
  among [] g = none (λ j h. absurd (not-suc-le-zero h)) refl
  among (x ∷ r) g = go (is_kth s m x) refl (among r (kth_step s m g x))
    where
      go : (b : Bool) → is_kth s m x ≡ b → {w : Float} → Among r (cond b x g) w → Among (x ∷ r) g w
      go b t (one j h e k) = one (suc j) (omega arith) e k
      go true t (none f e) = one 0 (omega arith) e (subst (λ (w : Float). T (is_kth s m w)) (sym e) (subst T (sym t) tt))
      go false t (none f e) = none (either_none t f) e
        where
          either_none : is_kth s m x ≡ false → ((j : ℕ) → j < length r → is_kth s m (get_or r j nan) ≡ false) → (j : ℕ) → j < length (x ∷ r) → is_kth s m (get_or (x ∷ r) j nan) ≡ false
          either_none t f zero h = t
          either_none t f (suc j) h = f j (omega arith)

  pub kth_found : (g : Float) → Found g (kth_smallest s m g)
  unfolding kth_smallest
  kth_found g = go (among s g)
    where
      go : {w : Float} → Among s g w → Found g w
      go (one j h e k) = one j h e k
      go (none f e) = none (λ v. none_at v (is_kth s m v) refl f) e
        where
          none_at : (v : Float) (b : Bool) → is_kth s m v ≡ b → ((j : ℕ) → j < length s → is_kth s m (get_or s j nan) ≡ false) → is_kth s m v ≡ false
          none_at v false t r = t
          none_at v true t r =
              let a = kth_met v (subst T (sym t) tt) in
              absurd (subst T (r a.0 a.1) (subst T (sym (kth_level a.2 ∙ t)) tt))

  -- what is the m-th smallest is level with it
  pub kth_is : (g v : Float) → T (is_kth s m v) → Level v (kth_smallest s m g)
  kth_is g v h = go (kth_found g)
    where
      go : Found g (kth_smallest s m g) → Level v (kth_smallest s m g)
      go (one j k e t) = kth_only v (kth_smallest s m g) h t
      go (none f e) = absurd (subst T (f v) h)

  -- it is g where there are fewer than m
  pub kth_none : (g : Float) → length s < m → g ≡ kth_smallest s m g
  kth_none g h = go (kth_found g)
    where
      go : Found g (kth_smallest s m g) → g ≡ kth_smallest s m g
      go (one j k e t) = absurd (subst T (kth_few h (kth_smallest s m g)) t)
      go (none f e) = sym e
