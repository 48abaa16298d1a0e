-- The search against the published method: J. Kiefer, Sequential minimax search for a maximum, Proc. Amer. Math. Soc. 4 (1953). Definitions; the theorems are in proofs/Kiefer.
-- What 000 keeps of it: a bracket has two inner points with their scores. A round keeps the part about the inner point of the better score, reuses that point and its score as an
-- inner point of the part, and makes one new trial there. The points stand at the golden section, the limit of Kiefer's Fibonacci points as the number of trials grows: specs/Points.
-- Where the score has one valley on the points compared, a round that begins with c < d keeps its bottom in the bracket: `bottom_kept`, and `bottom_stays` of any number of rounds.
-- Where 000 leaves it:
-- 1. It seeks the least score, not the greatest. Where the two scores are equal, or one is NaN, it keeps the right part. So the score may stay level before the bottom but has to rise
--    strictly after it: equal scores past the bottom lose it (`level_loses`).
-- 2. The new point stands at a proportion of the part, a + G2 h or a + G h. The published one is the mirror image of the reused point. As real numbers they are the same, which
--    `golden_section` of proofs/Points proves of any commutative ring; rounded they are not. In a bracket some last places wide c can come out above d: `out_of_order` of proofs/Kiefer.
--    Such a round can keep a part that the reused point lies outside, and the next can widen the bracket (`widens`). So a bracket lies within the one before while c ≤ d (`narrowing`),
--    and within every bracket that held its own points always (`later_within`).
-- 3. It makes at most 100 rounds, fewer where |h| ≤ EPS. The published number of trials follows from the accuracy that is asked.
-- 4. Its answer is the best point tried. The published answer is the last bracket.
-- 5. It neither asks nor tests that the score has one valley. Where it has more, the answer is still the best point tried, and nothing is said of the points between.
use Rattle.std.specs.Prelude.{◌≡◌, not, cond, List, [], ◌∷◌, ◌⊎◌, T, Float}
use Rattle.std.specs.Float.{binary64}
use Rattle.std.specs.Float.Ieee.{sub, lt, le, fits}
use Rattle.std.specs.Float.Ieee.Scale.{finite}
use Rattle.golden.specs.declared.Bracket.{Bracket}
use Rattle.golden.specs.Golden.{start_of, first_of, second_of, goes_left, aim_of, narrow_of}

-- ---- places

-- the ends of a search: finite numbers lo ≤ hi of binary64, hi - lo finite too
pub record Span (lo hi : Float) : Type 0 where
  pub low_held : T (fits binary64 lo)
  pub high_held : T (fits binary64 hi)
  pub low_finite : T (finite lo)
  pub high_finite : T (finite hi)
  pub order : T (le lo hi)
  pub width : T (finite (sub binary64 hi lo))

-- x is a number of binary64 from lo to hi
pub record Inside (lo hi x : Float) : Type 0 where
  pub held : T (fits binary64 x)
  pub low : T (le lo x)
  pub high : T (le x hi)

-- the ends of g and its inner points lie from lo to hi
abbrev pub Within : Float → Float → Bracket → Type 0
Within lo hi g = Inside lo hi g.a × Inside lo hi g.b × Inside lo hi g.c × Inside lo hi g.d

-- the inner points of g lie in the bracket
pub record Framed (g : Bracket) : Type 0 where
  pub span : Span g.a g.b
  pub c : Inside g.a g.b g.c
  pub d : Inside g.a g.b g.d

-- ---- a round

-- from g to k, whose trial scores s. Where c scores lower, the part from a to d is kept, c and its score are reused as d, and the new c is tried;
-- where it does not, the part from c to b is kept, d and its score are reused as c, and the new d is tried
abbrev pub KieferRound : Bracket → Bracket → Float → Type 0
KieferRound g k s =
    let after : Float × Float × Float × Float × Float × Float = (k.a, k.b, k.c, k.fc, k.d, k.fd) in
    (after ≡ cond (goes_left g) (g.a, g.d, aim_of g, s, g.c, g.fc) (g.c, g.b, g.d, g.fd, aim_of g, s)) × (k.h ≡ sub binary64 k.b k.a)

-- the bracket k lies within the bracket g, and its inner points lie in it
abbrev pub Narrowed : Bracket → Bracket → Type 0
Narrowed g k = T (le g.a k.a) × T (le k.b g.b) × Framed k

-- ---- a search

-- the bracket from lo to hi whose inner points score s and t
abbrev pub opened : Float → Float → Float → Float → Bracket
opened lo hi s t = second_of (first_of (start_of lo hi) s) t

-- the bracket after rounds whose trials score so
unfoldable pub played_of : Bracket → List Float → Bracket
played_of g [] = g
played_of g (s ∷ l) = played_of (narrow_of g s) l

-- the points that those rounds try
unfoldable pub tried_of : Bracket → List Float → List Float
tried_of g [] = []
tried_of g (s ∷ l) = aim_of g ∷ tried_of (narrow_of g s) l

-- x is one of them
abbrev pub Among : Float → List Float → Type 0
Among x [] = ⊥
Among x (y ∷ l) = (x ≡ y) ⊎ Among x l

-- the bracket of every round has c ≤ d when the round begins, as every bracket of the published method has
abbrev pub Steady : Bracket → List Float → Type 0
Steady g [] = Unit
Steady g (s ∷ l) = T (le g.c g.d) × Steady (narrow_of g s) l

-- every bracket lies within the one before
abbrev pub Narrowing : Bracket → List Float → Type 0
Narrowing g [] = Unit
Narrowing g (s ∷ l) = Narrowed g (narrow_of g s) × Narrowing (narrow_of g s) l

-- the points of a search from lo to hi: the two of the first bracket, which score s and t, and those of its rounds
abbrev pub points_of : Float → Float → Float → Float → List Float → List Float
points_of lo hi s t l = (start_of lo hi).c ∷ (start_of lo hi).d ∷ tried_of (opened lo hi s t) l

-- a search of any number of rounds: every point tried lies from lo to hi, so does the last bracket, and the answer is a point tried
pub record SearchInside (lo hi s t : Float) (l : List Float) : Type 0 where
  pub points : (x : Float) → Among x (points_of lo hi s t l) → Inside lo hi x
  pub bracket : Within lo hi (played_of (opened lo hi s t) l)
  pub answer : Among (played_of (opened lo hi s t) l).best (points_of lo hi s t l)

-- ---- one valley

-- on these points the score f is unimodal, one valley with its bottom at m: up to m it nowhere rises (a NaN is no rise), from m on it rises strictly
pub record Valley (f : Float → Float) (points : List Float) (m : Float) : Type 0 where
  pub falls : (x y : Float) → Among x points → Among y points → T (lt x y) → T (le y m) → T (not (lt (f x) (f y)))
  pub rises : (x y : Float) → Among x points → Among y points → T (le m x) → T (lt x y) → T (lt (f x) (f y))

-- the scores of g's inner points are those of f
abbrev pub ScoredBy : (Float → Float) → Bracket → Type 0
ScoredBy f g = (g.fc ≡ f g.c) × (g.fd ≡ f g.d)

-- every round tries f at its point, and its bracket has c < d when the round begins
abbrev pub Follows : (Float → Float) → Bracket → List Float → Type 0
Follows f g [] = Unit
Follows f g (s ∷ l) = T (lt g.c g.d) × (s ≡ f (aim_of g)) × Follows f (narrow_of g s) l
