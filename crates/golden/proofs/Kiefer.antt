-- Kiefer's search as specs/Kiefer states it. Each round is one of his. Every new point lies in the part kept, rounding included. A round that begins in order narrows the bracket; no
-- later bracket or point leaves one that holds its own points. The bottom of a valley stays in the bracket. The answer is a point tried: that it is the earliest of those with the
-- least score is `golden_best` of crates/claims/proofs/three/Best.antt.
use mathlib.Core.Path.{◌≡◌, refl, subst⁻¹, ◌∙◌, subst}
use mathlib.Core.Bool.{Bool, true, false, cond, not}
use mathlib.Core.List.{List, [], ◌∷◌}
use mathlib.Core.Logic.{◌⊎◌, inl, inr}
use Prim.Native.Nat.{◌*◌, ◌≤◌}
use lib.IntN.{pos}
use lib.Dec.{T, T_not, lit≤}
use lib.Ieee.{Float, nan, inf, fin, binary64, add, sub, mul, lt, le, fits, of_bits, is_nan}
use lib.Ieee.Fits.{add-fits}
use lib.Ieee.Scale.{finite}
use lib.Ieee.Positive.{num, den}
use Rattle.real.specs.Reals.{zero64, one64, magnitude}
use Rattle.real.specs.Fold.{turns}
use Rattle.real.proofs.SignedOrder.{natural, nat_fin, in_fin, le_self, le_total, add_mono, mul_smono}
use Rattle.real.proofs.Toward.{forward, width_finite, within_finite, toward_fin, toward_low, toward_high}
use Rattle.golden.specs.declared.Bracket.{Bracket}
use Rattle.golden.specs.Golden.{G, G2, start_of, first_of, second_of, aim_of, improved_of, left_of, right_of, narrow_of}
use Rattle.golden.specs.Kiefer.{Span, Inside, Within, Framed, KieferRound, Narrowed, Valley, ScoredBy, Follows, opened, played_of, tried_of, Among, Steady, Narrowing, points_of, SearchInside}
use Rattle.golden.proofs.Round.{best_is, best_of_two}

-- ---- the proportions: from 0 to 2 / 3
record Share (r : Float) : Type 0 where
  natural : T (natural r)
  third : 3 * num r ≤ 2 * den r

G-share : Share G
unfolding of_bits
G-share = record { natural = tt; third = lit≤ tt }

G2-share : Share G2
unfolding of_bits
G2-share = record { natural = tt; third = lit≤ tt }

-- ---- what lies in a span
module _ {lo hi : Float} (w : Span lo hi) where
  inside_finite : {x : Float} → Inside lo hi x → T (finite x)
  inside_finite {x} i = in_fin lo x hi w.low_finite w.high_finite i.low i.high

  low_inside : Inside lo hi lo
  low_inside = record { held = w.low_held; low = le_self lo w.low_finite; high = w.order }

  high_inside : Inside lo hi hi
  high_inside = record { held = w.high_held; low = w.order; high = le_self hi w.high_finite }

  -- a part of it
  part_span : {x y : Float} → Inside lo hi x → Inside lo hi y → T (le x y) → Span x y
  part_span {x} {y} i j h =
      record {
        low_held = i.held;
        high_held = j.held;
        low_finite = inside_finite i;
        high_finite = inside_finite j;
        order = h;
        width = within_finite binary64 lo hi w.low_held w.high_held w.low_finite w.high_finite w.width x y (inside_finite i) (inside_finite j) i.low i.high j.low j.high;
      }

  -- a point on the way from one point of it to another
  toward_inside : {x y r : Float} → Inside lo hi x → Inside lo hi y → Share r → Inside lo hi (add binary64 x (mul binary64 r (sub binary64 y x)))
  toward_inside {x} {y} {r} i j s =
      let nx = inside_finite i in
      let ny = inside_finite j in
      let nw = within_finite binary64 lo hi w.low_held w.high_held w.low_finite w.high_finite w.width x y nx ny i.low i.high j.low j.high in
      record {
        held = add-fits binary64 x (mul binary64 r (sub binary64 y x));
        low = toward_low binary64 r x y i.held j.held nx ny nw s.natural s.third lo w.low_held w.low_finite i.low j.low;
        high = toward_high binary64 r x y i.held j.held nx ny nw s.natural s.third hi w.high_held w.high_finite i.high j.high;
      }

-- every search: numbers from 0 up, whose width is then finite
pub search_span : (lo hi : Float) → T (fits binary64 lo) → T (fits binary64 hi) → T (finite lo) → T (finite hi) → T (le zero64 lo) → T (le lo hi) → Span lo hi
unfolding of_bits
search_span lo hi p q n k z h =
    record { low_held = p; high_held = q; low_finite = n; high_finite = k; order = h; width = width_finite binary64 lo hi p q n k z h }

-- ---- the two branches of a round
-- the best point is x with the score v
abbrev best_at : Bracket → Float → Float → Bracket
best_at g x v = record { a = g.a; b = g.b; c = g.c; d = g.d; h = g.h; fc = g.fc; fd = g.fd; best = x; low = v }

module _ (g : Bracket) where
  aim_left : lt g.fc g.fd ≡ true → aim_of g ≡ add binary64 g.a (mul binary64 G2 (sub binary64 g.d g.a))
  unfolding aim_of
  aim_left e = rw e

  aim_right : lt g.fc g.fd ≡ false → aim_of g ≡ add binary64 g.c (mul binary64 G (sub binary64 g.b g.c))
  unfolding aim_of
  aim_right e = rw e

  by_side : (s : Float) (Q : Bracket → Type 0)
      → (lt g.fc g.fd ≡ true → (x v : Float) → Q (left_of (best_at g x v) (aim_of g) s))
      → (lt g.fc g.fd ≡ false → (x v : Float) → Q (right_of (best_at g x v) (aim_of g) s))
      → Q (narrow_of g s)
  unfolding narrow_of improved_of
  by_side s Q l r = go (lt g.fc g.fd) refl
    where
      go : (b : Bool) → lt g.fc g.fd ≡ b → Q (narrow_of g s)
      go true e = rw e (l e _ _)
      go false e = rw e (r e _ _)

-- ---- each round is one of Kiefer's
pub round_kiefer : (g : Bracket) (s : Float) → KieferRound g (narrow_of g s) s
round_kiefer g s =
    by_side g s (λ k. KieferRound g k s)
    (λ e x v. (rw e, refl)) (λ e x v. (rw e, refl))

-- ---- every member
abbrev pub Each : (Float → Type 0) → List Float → Type 0
Each P [] = Unit
Each P (x ∷ l) = P x × Each P l

each_among : (P : Float → Type 0) (l : List Float) → Each P l → (x : Float) → Among x l → P x
each_among P [] e x a = absurd a
each_among P (y ∷ l) e x (inl h) = subst⁻¹ P h e.0
each_among P (y ∷ l) e x (inr a) = each_among P l e.1 x a

-- ---- what lies from lo to hi stays there, whatever the scores
module _ {lo hi : Float} (w : Span lo hi) where
  pub aim_inside : (g : Bracket) → Within lo hi g → Inside lo hi (aim_of g)
  aim_inside g i = go (lt g.fc g.fd) refl
    where
      go : (b : Bool) → lt g.fc g.fd ≡ b → Inside lo hi (aim_of g)
      go true e = rw (aim_left g e) (toward_inside w i.0 i.3 G2-share)
      go false e = rw (aim_right g e) (toward_inside w i.2 i.1 G-share)

  pub round_within : (g : Bracket) (s : Float) → Within lo hi g → Within lo hi (narrow_of g s)
  round_within g s i =
      by_side g s (Within lo hi)
      (λ e x v. (i.0, i.3, aim_inside g i, i.2)) (λ e x v. (i.2, i.1, i.3, aim_inside g i))

  pub played_within : (g : Bracket) (l : List Float) → Within lo hi g → Within lo hi (played_of g l)
  unfolding played_of
  played_within g [] i = i
  played_within g (s ∷ l) i = played_within (narrow_of g s) l (round_within g s i)

  pub tried_inside : (g : Bracket) (l : List Float) → Within lo hi g → Each (Inside lo hi) (tried_of g l)
  unfolding tried_of
  tried_inside g [] i = tt
  tried_inside g (s ∷ l) i = (aim_inside g i, tried_inside (narrow_of g s) l (round_within g s i))

-- ---- the first bracket
module _ {lo hi : Float} (w : Span lo hi) where
  pub start_framed : Framed (start_of lo hi)
  unfolding start_of
  start_framed =
      record {
        span = w;
        c = toward_inside w (low_inside w) (high_inside w) G2-share;
        d = toward_inside w (low_inside w) (high_inside w) G-share;
      }

  pub start_ordered : T (lt lo hi) → T (le (start_of lo hi).c (start_of lo hi).d)
  unfolding start_of
  start_ordered h =
      let n = forward binary64 lo hi w.low_held w.high_held w.low_finite w.high_finite w.width h in
      add_mono binary64 lo lo (mul binary64 G2 (sub binary64 hi lo)) (mul binary64 G (sub binary64 hi lo)) w.low_finite w.low_finite
      (toward_fin binary64 G2 lo hi w.low_held w.high_held w.low_finite w.high_finite w.width G2-share.natural G2-share.third)
      (toward_fin binary64 G lo hi w.low_held w.high_held w.low_finite w.high_finite w.width G-share.natural G-share.third)
      (le_self lo w.low_finite)
      (mul_smono binary64 G2 G (sub binary64 hi lo) (nat_fin G2 G2-share.natural) (nat_fin G G-share.natural) n (unfold le of_bits in tt))

-- scores move no point
abbrev second_at : Bracket → Float → Float → Float → Bracket
second_at g s x v = record { a = g.a; b = g.b; c = g.c; d = g.d; h = g.h; fc = g.fc; fd = s; best = x; low = v }

by_second : (g : Bracket) (s : Float) (Q : Bracket → Type 0) → ((x v : Float) → Q (second_at g s x v)) → Q (second_of g s)
unfolding second_of
by_second g s Q q = q _ _

pub opened_framed : {lo hi : Float} (w : Span lo hi) (s t : Float) → Framed (opened lo hi s t)
unfolding start_of
opened_framed {lo} {hi} w s t = by_second (first_of (start_of lo hi) s) t Framed (λ x v. record { span = w; c = (start_framed w).c; d = (start_framed w).d })

-- ---- a round that begins in order narrows the bracket
pub round_narrows : (g : Bracket) (s : Float) → Framed g → T (le g.c g.d) → Narrowed g (narrow_of g s)
round_narrows g s o h =
    by_side g s (Narrowed g)
    (λ e x v.
    let p = part_span o.span (low_inside o.span) o.d o.d.low in (
      le_self g.a o.span.low_finite,
      o.d.high,
      record { span = p; c = rw (aim_left g e) (toward_inside p (low_inside p) (high_inside p) G2-share); d = record { held = o.c.held; low = o.c.low; high = h } },
    ))
    (λ e x v.
    let p = part_span o.span o.c (high_inside o.span) o.c.high in (
      o.c.low,
      le_self g.b o.span.high_finite,
      record { span = p; c = record { held = o.d.held; low = h; high = o.d.high }; d = rw (aim_right g e) (toward_inside p (low_inside p) (high_inside p) G-share) },
    ))

pub narrowing : (g : Bracket) (l : List Float) → Framed g → Steady g l → Narrowing g l
narrowing g [] o h = tt
narrowing g (s ∷ l) o h = let n = round_narrows g s o h.0 in (n, narrowing (narrow_of g s) l n.2 h.1)

-- ---- the bottom of a valley stays in the bracket

-- what is less or at most is no NaN
less_numbers : (x y : Float) → T (lt x y) → T (not (is_nan x)) × T (not (is_nan y))
unfolding lt is_nan
less_numbers nan y h = absurd h
less_numbers (inf s) nan h = absurd h
less_numbers (inf s) (inf t) h = (tt, tt)
less_numbers (inf s) (fin t n d) h = (tt, tt)
less_numbers (fin s m e) nan h = absurd h
less_numbers (fin s m e) (inf t) h = (tt, tt)
less_numbers (fin s m e) (fin t n d) h = (tt, tt)

most_number_lem : (x y : Float) → T (le x y) → T (not (is_nan y))
unfolding le is_nan
most_number_lem nan nan h = h
most_number_lem (inf s) nan h = h
most_number_lem (fin s m e) nan h = h
most_number_lem x (inf t) h = tt
most_number_lem x (fin t n d) h = tt

pub bottom_kept : (f : Float → Float) (g : Bracket) (s m : Float) → T (lt g.c g.d) → ScoredBy f g
    → Valley f (g.c ∷ g.d ∷ []) m → Inside g.a g.b m → Inside (narrow_of g s).a (narrow_of g s).b m
bottom_kept f g s m h w v i =
    by_side g s (λ k. Inside k.a k.b m)
    (λ e x y. record { held = i.held; low = i.low; high = left (subst⁻¹ T (rw (w.0, w.1) at e) tt) (le_total m g.d n (less_numbers g.c g.d h).1) })
    (λ e x y. record { held = i.held; low = right (rw (w.0, w.1) at e) (le_total g.c m (less_numbers g.c g.d h).0 n); high = i.high })
  where
    n : T (not (is_nan m))
    n = most_number_lem g.a m i.low

    left : T (lt (f g.c) (f g.d)) → T (le m g.d) ⊎ T (le g.d m) → T (le m g.d)
    left r (inl k) = k
    left r (inr k) = absurd (T_not (lt (f g.c) (f g.d)) (v.falls g.c g.d (inl refl) (inr (inl refl)) h k) r)

    right : lt (f g.c) (f g.d) ≡ false → T (le g.c m) ⊎ T (le m g.c) → T (le g.c m)
    right e (inl k) = k
    right e (inr k) = absurd (subst T e (v.rises g.c g.d (inl refl) (inr (inl refl)) k h))

-- fewer points have the same valley
fewer : {f : Float → Float} {points : List Float} {m : Float} (some : List Float) → ((x : Float) → Among x some → Among x points) → Valley f points m → Valley f some m
fewer some p v = record { falls = λ x y i j. v.falls x y (p x i) (p y j); rises = λ x y i j. v.rises x y (p x i) (p y j) }

first_two : (x y z : Float) (l : List Float) → Among z (x ∷ y ∷ []) → Among z (x ∷ y ∷ l)
first_two x y z l (inl e) = inl e
first_two x y z l (inr (inl e)) = inr (inl e)
first_two x y z l (inr (inr h)) = absurd h

-- the points after a round are among those before it
later_points : (g : Bracket) (s : Float) (l : List Float) (x : Float) → Among x ((narrow_of g s).c ∷ (narrow_of g s).d ∷ l) → Among x (g.c ∷ g.d ∷ aim_of g ∷ l)
later_points g s l x =
    by_side g s (λ k. Among x (k.c ∷ k.d ∷ l) → Among x (g.c ∷ g.d ∷ aim_of g ∷ l))
    (λ e y v. left) (λ e y v. right)
  where
    left : Among x (aim_of g ∷ g.c ∷ l) → Among x (g.c ∷ g.d ∷ aim_of g ∷ l)
    left (inl h) = inr (inr (inl h))
    left (inr (inl h)) = inl h
    left (inr (inr h)) = inr (inr (inr h))

    right : Among x (g.d ∷ aim_of g ∷ l) → Among x (g.c ∷ g.d ∷ aim_of g ∷ l)
    right (inl h) = inr (inl h)
    right (inr h) = inr (inr h)

next_scored : (f : Float → Float) (g : Bracket) (s : Float) → ScoredBy f g → s ≡ f (aim_of g) → ScoredBy f (narrow_of g s)
next_scored f g s w h = by_side g s (ScoredBy f) (λ e x y. (h, w.0)) (λ e x y. (w.1, h))

-- and through any number of rounds
pub bottom_stays : (f : Float → Float) (m : Float) (g : Bracket) (l : List Float) → ScoredBy f g → Follows f g l
    → Valley f (g.c ∷ g.d ∷ tried_of g l) m → Inside g.a g.b m → Inside (played_of g l).a (played_of g l).b m
unfolding played_of tried_of
bottom_stays f m g [] w r v i = i
bottom_stays f m g (s ∷ l) w r v i =
    bottom_stays f m (narrow_of g s) l (next_scored f g s w r.1) r.2
    (fewer ((narrow_of g s).c ∷ (narrow_of g s).d ∷ tried_of (narrow_of g s) l) (later_points g s (tried_of (narrow_of g s) l)) v)
    (bottom_kept f g s m r.0 w (fewer (g.c ∷ g.d ∷ []) (λ x. first_two g.c g.d x (tried_of g (s ∷ l))) v) i)

-- in order or not, no later bracket or point leaves a bracket that frames its points
framed_within : (g : Bracket) → Framed g → Within g.a g.b g
framed_within g o = (low_inside o.span, high_inside o.span, o.c, o.d)

pub later_within : (g : Bracket) (l : List Float) → Framed g → Within g.a g.b (played_of g l) × Each (Inside g.a g.b) (tried_of g l)
later_within g l o = (played_within o.span g l (framed_within g o), tried_inside o.span g l (framed_within g o))

-- ---- the answer is a point tried
best_tried : (g : Bracket) (l : List Float) → ((played_of g l).best ≡ g.best) ⊎ Among (played_of g l).best (tried_of g l)
unfolding played_of tried_of
best_tried g [] = inl refl
best_tried g (s ∷ l) = go (best_tried (narrow_of g s) l) (best_is g s)
  where
    go : ((played_of (narrow_of g s) l).best ≡ (narrow_of g s).best) ⊎ Among (played_of (narrow_of g s) l).best (tried_of (narrow_of g s) l)
        → (((narrow_of g s).best ≡ g.best) × ((narrow_of g s).low ≡ g.low)) ⊎ (((narrow_of g s).best ≡ aim_of g) × ((narrow_of g s).low ≡ s) × (lt s g.low ≡ true))
        → ((played_of (narrow_of g s) l).best ≡ g.best) ⊎ (((played_of (narrow_of g s) l).best ≡ aim_of g) ⊎ Among (played_of (narrow_of g s) l).best (tried_of (narrow_of g s) l))
    go (inl e) (inl h) = inl (e ∙ h.0)
    go (inl e) (inr h) = inr (inl (e ∙ h.0))
    go (inr q) h = inr (inr q)

pub searched : {lo hi : Float} (w : Span lo hi) (s t : Float) (l : List Float) → SearchInside lo hi s t l
unfolding start_of
searched {lo} {hi} w s t l =
    let g = opened lo hi s t in
    let i = by_second (first_of (start_of lo hi) s) t (Within lo hi) (λ x v. (low_inside w, high_inside w, (start_framed w).c, (start_framed w).d)) in
    record {
      points = each_among (Inside lo hi) (points_of lo hi s t l) ((start_framed w).c, ((start_framed w).d, tried_inside w g l i));
      bracket = played_within w g l i;
      answer = go (best_tried g l) (best_of_two (first_of (start_of lo hi) s) t);
    }
  where
    k : Bracket
    k = first_of (start_of lo hi) s

    go : ((played_of (second_of k t) l).best ≡ (second_of k t).best) ⊎ Among (played_of (second_of k t) l).best (tried_of (second_of k t) l)
        → (((second_of k t).best ≡ k.c) × ((second_of k t).low ≡ k.fc) × (le k.fc t ≡ true)) ⊎ (((second_of k t).best ≡ k.d) × ((second_of k t).low ≡ t) × (le k.fc t ≡ false))
        → Among (played_of (opened lo hi s t) l).best (points_of lo hi s t l)
    go (inl e) (inl h) = inl (e ∙ h.0)
    go (inl e) (inr h) = inr (inl (e ∙ h.0))
    go (inr q) h = inr (inr q)

-- ---- a search that comes out of order, from 1024 - 60 u to 1024 + 20 u, where u = 2 ^ -43 is the last place of the numbers just below 1024

-- the score is the distance from 1024 - 12 u: one valley, with straight sides
abbrev valley : Float → Float
valley x = magnitude (sub binary64 x (of_bits binary64 0x408F_FFFF_FFFF_FFF4))

abbrev first : Bracket
first = start_of (of_bits binary64 0x408F_FFFF_FFFF_FFC4) (of_bits binary64 0x4090_0000_0000_000A)

abbrev sixth : Bracket
sixth = turns (λ i g. narrow_of g (valley (aim_of g))) 0 6 (second_of (first_of first (valley first.c)) (valley first.d))

-- after six rounds d < c
pub out_of_order : lt sixth.d sixth.c ≡ true
unfolding turns narrow_of improved_of aim_of second_of start_of magnitude add sub mul lt le of_bits
out_of_order = refl

-- and where the seventh trial scores below the valley, at -1, the eighth round widens the bracket
pub widens : lt (played_of sixth (fin true 1 (pos 0) ∷ [])).b (played_of sixth (fin true 1 (pos 0) ∷ zero64 ∷ [])).b ≡ true
unfolding played_of turns narrow_of improved_of aim_of second_of start_of magnitude add sub mul lt le of_bits
widens = refl

-- ---- a score with two equal points past its bottom, 0 at 0 and 1 above: the round from 0 to 1 keeps the right part, which 0 is not in
abbrev level : Float → Float
level x = cond (le x zero64) zero64 one64

abbrev whole : Bracket
whole = let g = start_of zero64 one64 in second_of (first_of g (level g.c)) (level g.d)

pub level_loses : lt zero64 (narrow_of whole (level (aim_of whole))).a ≡ true
unfolding narrow_of improved_of aim_of second_of start_of add sub mul lt le of_bits
level_loses = refl
