-- `pass` and `found_by`: a buffer's first numbers and the greatest are the walk so far. A walk taken up again is the walk. Assumes nothing.
use mathlib.Core.Path.{◌≡◌, refl, sym, ap, ◌∙◌, subst}
use mathlib.Core.Bool.{Bool, true, false, cond}
use mathlib.Core.Logic.{◌⊎◌, inl, inr}
use mathlib.Core.List.{List, [], ◌∷◌}
use Prim.Native.Nat.{ℕ, zero, suc, ◌+◌, ◌-◌, ◌*◌, ◌≤◌, ◌<◌}
use native.Mathlib.Omega.{arith}
use lib.Dec.{T, eqb}
use lib.ListN.{length, take, set, length-append}
use lib.Seq.{get_or-take}
use lib.Ieee.{Float, nan, lt}
use Rattle.real.specs.Fold.{turns, range}
use Rattle.real.specs.Reals.{zero64, greater, eps64}
use Rattle.real.proofs.Fold.{split, related}
use Rattle.root.specs.Root.{root}
use Rattle.root.proofs.Order.{root_level}
use Rattle.kernel.proofs.Reaches.{above_nonneg}
use Rattle.selection.specs.Kth.{is_kth, kth_smallest}
use Rattle.selection.proofs.Kths.{Level, level_lt, kth_is}
use Rattle.std.specs.Prelude.{Option, Some, None, nat_eq}
use Rattle.std.specs.Option.{option_eq}
use Rattle.std.proofs.lemmas.List.{take_more_set}
use Rattle.neighbours.specs.Walk.{Walk, unmet, meet, is_own, pass, walk_on, width_of, found_by, squares_from, nearest_from, walk_in}

-- ---- a walk stopped and taken up again from there ends as an unbroken one does
pub taken_up : (own : Option ℕ) (s : ℕ → Float) (a b c : ℕ) (w : Walk) → a ≤ b → b ≤ c → walk_on own s b c (walk_on own s a b w) ≡ walk_on own s a c w
unfolding walk_on
taken_up own s a b c w h g = split (pass own s) w a b c h g

-- ---- stopped after m pantries it gives the bandwidth among those alone, whatever is behind them
module _ (coords : List Float) (east north : Float) (own : Option ℕ) (k : ℕ) where
  abbrev s : ℕ → Float
  s = squares_from coords east north

  alone : (m j : ℕ) → j < m → s j ≡ squares_from (take (2 * m) coords) east north j
  unfolding squares_from
  alone m j h = rw (get_or-take (2 * m) coords (2 * j) nan (omega arith), get_or-take (2 * m) coords (2 * j + 1) nan (omega arith))

  pass_alone : (m j : ℕ) (w v : Walk) → j < m → w ≡ v → pass own s j w ≡ pass own (squares_from (take (2 * m) coords) east north) j v
  unfolding pass
  pass_alone m j w v h e = rw (e, alone m j h)

  pub stopped : (m : ℕ) → found_by k (walk_on own s 0 m unmet) ≡ nearest_from (take (2 * m) coords) m east north own k
  unfolding nearest_from walk_on
  stopped m = ap (found_by k) (related (pass own s) (pass own (squares_from (take (2 * m) coords) east north)) 0 m (λ w v. w ≡ v) (pass_alone m) unmet unmet (omega arith) refl)

  -- and taken up again to n that among n, as an unbroken walk does
  pub resumed : (m n : ℕ) → m ≤ n → found_by k (walk_on own s m n (walk_on own s 0 m unmet)) ≡ nearest_from coords n east north own k
  unfolding nearest_from
  resumed m n h = ap (found_by k) (taken_up own s 0 m n unmet (omega arith) h)

-- ---- the own pantry, as the code compares it
pub own_is : (own : Option ℕ) (j : ℕ) → option_eq nat_eq own (Some j) ≡ is_own own j
unfolding is_own
own_is None j = refl
own_is (Some i) j = refl

-- ---- one pantry met, as the code keeps it
module _ (own : Option ℕ) (s : ℕ → Float) (j : ℕ) where
  -- its own
  pub stays : (w : Walk) → is_own own j ≡ true → w ≡ pass own s j w
  unfolding pass
  stays w t = rw t

  -- another
  pub goes : (l : List Float) (met : ℕ) (g : Float) {x y : Float} → is_own own j ≡ false → x ≡ s j → y ≡ greater g x → met < length l → walk_in (set l met x) (met + 1) y ≡ pass own s j (walk_in l met g)
  unfolding pass meet
  goes l met g {x} {y} t f u h = rw (t, ← f, ← u) (ap (λ (v : List Float). record { sums = v; greatest = y }) (take_more_set l met x h))

pub pass_few : (own : Option ℕ) (s : ℕ → Float) (j : ℕ) (w : Walk) → (length w.sums ≤ length (pass own s j w).sums) × (length (pass own s j w).sums ≤ length w.sums + 1)
unfolding pass meet
pass_few own s j w = go (is_own own j)
  where
    go : (b : Bool) → (length w.sums ≤ length (cond b w (meet (s j) w)).sums) × (length (cond b w (meet (s j) w)).sums ≤ length w.sums + 1)
    go true = (omega arith, omega arith)
    go false = let e = length-append w.sums (s j ∷ []) in (omega arith, omega arith)

-- no more are met than there are
pub walk_few : (own : Option ℕ) (s : ℕ → Float) (a b : ℕ) (w : Walk) → length (walk_on own s a b w).sums ≤ length w.sums + (b - a)
unfolding walk_on range
walk_few own s a b w = go (b - a)
  where
    go : (n : ℕ) → length (turns (pass own s) a n w).sums ≤ length w.sums + n
    go zero = omega arith
    go (suc n) = omega (arith, (pass_few own s (a + n) (turns (pass own s) a n w)).1, go n)

-- ---- what a walk gives: level sums give one bandwidth
width_above : (g s : Float) → lt zero64 s ≡ true → width_of g s ≡ root s
unfolding width_of
width_above g s t = rw t

width_none : (g s : Float) → lt zero64 s ≡ false → width_of g s ≡ greater (root g) eps64
unfolding width_of
width_none g s t = rw t

width_level : (g : Float) {s t : Float} → Level s t → width_of g s ≡ width_of g t
width_level g {s} {t} e = go (lt zero64 s) refl
  where
    go : (b : Bool) → lt zero64 s ≡ b → width_of g s ≡ width_of g t
    go true u =
        let v : lt zero64 t ≡ true = sym (level_lt e zero64) ∙ u in
        let p = subst T (sym u) tt in
        let q = subst T (sym v) tt in
        width_above g s u ∙ root_level s t (above_nonneg s p) (above_nonneg t q) p q e.up e.down ∙ sym (width_above g t v)
    go false u = width_none g s u ∙ sym (width_none g t (sym (level_lt e zero64) ∙ u))

module _ (w : Walk) (k : ℕ) {l : List Float} {g s : Float} (sums : l ≡ w.sums) (last : g ≡ w.greatest) (is : T (is_kth l k s) ⊎ (s ≡ kth_smallest l k g)) where
  by_selected : found_by k w ≡ width_of g s
  unfolding found_by
  by_selected = rw (← sums, ← last) (go is)
    where
      go : T (is_kth l k s) ⊎ (s ≡ kth_smallest l k g) → width_of g (kth_smallest l k g) ≡ width_of g s
      go (inl t) = sym (width_level g (kth_is l k g s t))
      go (inr e) = ap (width_of g) (sym e)

  pub found_root : {r : Float} → lt zero64 s ≡ true → r ≡ root s → r ≡ found_by k w
  found_root t e = e ∙ sym (width_above g s t) ∙ sym by_selected

  pub found_greatest : {q r : Float} → lt zero64 s ≡ false → q ≡ root g → r ≡ greater q eps64 → r ≡ found_by k w
  found_greatest t e f = f ∙ ap (λ (x : Float). greater x eps64) e ∙ sym (width_none g s t) ∙ sym by_selected
