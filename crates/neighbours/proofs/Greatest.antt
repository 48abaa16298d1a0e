-- The greatest sum of a walk: every sum met is at most it, and one is not below it; its root is the greatest distance met. Assumes nothing.
use mathlib.Core.Path.{◌≡◌, refl, sym, ap, ◌∙◌, subst}
use mathlib.Core.Bool.{Bool, true, false, not, cond, ◌&&◌}
use mathlib.Core.Logic.{◌⊎◌, inl, inr}
use mathlib.Core.List.{List, [], ◌∷◌, ◌++◌}
use Prim.Native.Nat.{ℕ, ◌+◌, ◌≤◌, ◌<◌}
use native.Mathlib.Nat.{not-suc-le-zero}
use native.Mathlib.Omega.{arith}
use lib.Dec.{T}
use lib.ListN.{length, length-append}
use lib.Ieee.{Float, binary64, le, lt, fits, of_bits}
use lib.Ieee.Bits.{is_true}
use lib.Ieee.Fits.{and_l, and_r}
use Rattle.real.specs.Reals.{zero64, greater}
use Rattle.real.proofs.Fold.{kept, related}
use Rattle.real.proofs.Values.{untrue}
use Rattle.real.proofs.SignedOrder.{nonneg, le_tr, apart, nlt→le, lt→le, here_or_on}
use Rattle.root.specs.Root.{root}
use Rattle.root.proofs.Order.{nonneg_number, nonneg_above, root_nonneg, root_order, root_fits, one_only}
use Rattle.std.specs.Prelude.{Option}
use Rattle.neighbours.specs.Walk.{Walk, unmet, meet, is_own, pass, walk_on}
use Rattle.neighbours.specs.Smallest.{great_step, greatest_met}
use Rattle.neighbours.proofs.Inserts.{le_itself}
use Rattle.neighbours.proofs.Amounts.{amount, amount_snoc, amount_most, amount_mono}

-- a binary64 from 0 up
abbrev pub from_zero : Float → Bool
from_zero x = fits binary64 x && nonneg x

module _ (x : Float) (t : T (from_zero x)) where
  pub held : T (fits binary64 x)
  held = and_l (fits binary64 x) (nonneg x) t

  pub above : T (nonneg x)
  above = and_r (fits binary64 x) (nonneg x) t

  le_own : T (le x x)
  le_own = le_itself x (nonneg_number x above).0

  not_below_zero : lt x zero64 ≡ false
  unfolding of_bits
  not_below_zero = untrue (lt x zero64) (λ h. apart x zero64 h (nonneg_above x above))

-- ---- the greatest of the sums met
pub record Topped (w : Walk) : Type 0 where
  pub most : length w.sums ≤ amount (λ x. le x w.greatest) w.sums
  pub met : 0 < length w.sums → amount (λ x. lt x w.greatest) w.sums < length w.sums
  pub none : length w.sums ≡ 0 → w.greatest ≡ zero64
  pub from_zero_lem : T (from_zero w.greatest)
  pub each : length w.sums ≤ amount from_zero w.sums

module _ (w : Walk) (t : Topped w) (x : Float) (ok : T (from_zero x)) where
  abbrev l : List Float
  l = w.sums

  abbrev g : Float
  g = w.greatest

  one_more : length (l ++ x ∷ []) ≡ length l + 1
  one_more = length-append l (x ∷ [])

  counted : (p : Float → Bool) → T (p x) → amount p (l ++ x ∷ []) ≡ amount p l + 1
  counted p h = amount_snoc p l x ∙ ap (λ (b : Bool). amount p l + cond b 1 0) (is_true (p x) h)

  not_empty : {A : Type 0} → length (l ++ x ∷ []) ≡ 0 → A
  not_empty e = absurd (not-suc-le-zero {n = 0} (omega (arith, one_more)))

  met_greater : T (lt g x) → Topped record { sums = l ++ x ∷ []; greatest = x }
  met_greater h =
      record {
        most = omega (arith, t.most, one_more, counted (λ z. le z x) (le_own x ok), amount_mono (λ z. le z g) (λ z. le z x) (λ z u. le_tr z g x u (lt→le g x h)) l);
        met = λ _.
            omega
            (arith, one_more, amount_snoc (λ z. lt z x) l x ∙ ap (λ (b : Bool). amount (λ z. lt z x) l + cond b 1 0) (untrue (lt x x) (λ u. apart x x u (le_own x ok))), amount_most (λ z. lt z x) l);
        none = not_empty;
        from_zero_lem = ok;
        each = omega (arith, t.each, one_more, counted from_zero ok);
      }

  met_lesser : T (not (lt g x)) → Topped record { sums = l ++ x ∷ []; greatest = g }
  met_lesser h =
      let under : T (le x g) = nlt→le g x (nonneg_number g (above g t.from_zero_lem)).0 (nonneg_number x (above x ok)).0 h in
      record {
        most = omega (arith, t.most, one_more, counted (λ z. le z g) under);
        met = λ _. some (here_or_on 0 (length l));
        none = not_empty;
        from_zero_lem = t.from_zero_lem;
        each = omega (arith, t.each, one_more, counted from_zero ok);
      }
    where
      low : (b : Bool) → cond b 1 0 ≤ 1
      low true = omega arith
      low false = omega arith

      some : (0 < length l) ⊎ (length l ≤ 0) → amount (λ z. lt z g) (l ++ x ∷ []) < length (l ++ x ∷ [])
      some (inl k) = omega (arith, one_more, amount_snoc (λ z. lt z g) l x, low (lt x g), t.met k)
      some (inr k) =
          let zero_is : g ≡ zero64 = t.none (omega arith) in
          omega
          (arith, one_more, amount_snoc (λ z. lt z g) l x ∙ ap (λ (b : Bool). amount (λ z. lt z g) l + cond b 1 0) (ap (lt x) zero_is ∙ not_below_zero x ok), amount_most (λ z. lt z g) l)

  meet_topped : Topped (meet x w)
  unfolding meet greater
  meet_topped = go (lt g x) refl
    where
      go : (b : Bool) → lt g x ≡ b → Topped record { sums = l ++ x ∷ []; greatest = cond b x g }
      go true u = met_greater (subst T (sym u) tt)
      go false u = met_lesser (subst (λ (b : Bool). T (not b)) (sym u) tt)

module _ (own : Option ℕ) (s : ℕ → Float) (m : ℕ) (ok : (j : ℕ) → j < m → T (from_zero (s j))) where
  pass_topped : (j : ℕ) (w : Walk) → j < m → Topped w → Topped (pass own s j w)
  unfolding pass
  pass_topped j w h t = go (is_own own j)
    where
      go : (b : Bool) → Topped (cond b w (meet (s j) w))
      go true = t
      go false = meet_topped w t (s j) (ok j h)

  nothing : Topped unmet
  unfolding amount of_bits fits
  nothing = record { most = omega arith; met = λ h. absurd (not-suc-le-zero h); none = λ _. refl; from_zero_lem = tt; each = omega arith }

  pub walk_topped : Topped (walk_on own s 0 m unmet)
  unfolding walk_on
  walk_topped = kept (pass own s) 0 m Topped pass_topped unmet (omega arith) nothing

-- ---- the root of the greater is the greater of the roots
great_root : (g x : Float) → T (from_zero g) → T (from_zero x) → greater (root g) (root x) ≡ root (greater g x)
unfolding greater
great_root g x u v = go (lt g x) (lt (root g) (root x)) refl refl
  where
    one : T (lt g x) → T (not (lt (root g) (root x))) → root g ≡ root x
    one h k =
        let p = root_nonneg g (above g u) in
        let q = root_nonneg x (above x v) in
        one_only (root g) (root x) (root_fits g (held g u) (above g u)) (root_fits x (held x v) (above x v)) p q
        (root_order g x (held g u) (held x v) (above g u) (above x v) (lt→le g x h))
        (nlt→le (root g) (root x) (nonneg_number (root g) p).0 (nonneg_number (root x) q).0 k)

    never : T (not (lt g x)) → T (lt (root g) (root x)) → ⊥
    never h k =
        apart (root g) (root x) k
        (root_order x g (held x v) (held g u) (above x v) (above g u) (nlt→le g x (nonneg_number g (above g u)).0 (nonneg_number x (above x v)).0 h))

    go : (b c : Bool) → lt g x ≡ b → lt (root g) (root x) ≡ c → cond c (root x) (root g) ≡ root (cond b x g)
    go true true e f = refl
    go true false e f = one (subst T (sym e) tt) (subst (λ (b : Bool). T (not b)) (sym f) tt)
    go false true e f = absurd (never (subst (λ (b : Bool). T (not b)) (sym e) tt) (subst T (sym f) tt))
    go false false e f = refl

pub zero_root : zero64 ≡ root zero64
unfolding root of_bits
zero_root = refl

module _ (own : Option ℕ) (s d : ℕ → Float) (m : ℕ) (ok : (j : ℕ) → j < m → T (from_zero (s j))) (is : (j : ℕ) → d j ≡ root (s j)) where
  record Roots (g : Float) (w : Walk) : Type 0 where
    root_of : g ≡ root w.greatest
    topped : Topped w

  roots_on : (j : ℕ) (g : Float) (w : Walk) → j < m → Roots g w → Roots (great_step own d j g) (pass own s j w)
  unfolding great_step pass
  roots_on j g w h r = go (is_own own j)
    where
      go : (b : Bool) → Roots (cond b g (greater g (d j))) (cond b w (meet (s j) w))
      go true = r
      go false =
          record {
            root_of = unfold meet in ap (λ (z : Float). greater z (d j)) r.root_of ∙ ap (greater (root w.greatest)) (is j) ∙ great_root w.greatest (s j) r.topped.from_zero_lem (ok j h);
            topped = meet_topped w r.topped (s j) (ok j h);
          }

  pub greatest_root : greatest_met own d m ≡ root (walk_on own s 0 m unmet).greatest
  unfolding greatest_met walk_on
  greatest_root = (related (great_step own d) (pass own s) 0 m Roots roots_on zero64 unmet (omega arith) record { root_of = zero_root; topped = nothing own s m ok }).root_of
