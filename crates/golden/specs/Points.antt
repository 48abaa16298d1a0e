-- The places of the points as formulas over any arithmetic: that of binary64, which rounds each operation once, and the exact one of any commutative ring. Definitions; the theorems
-- are in proofs/Points.
use Rattle.std.specs.Prelude.{◌≡◌, Bool, cond, ◌+◌, ◌*◌, ◌^◌, ◌<◌, Float}
use Rattle.std.specs.Float.Ieee.Positive.{num, den}
use Rattle.real.specs.Arithmetic.{Arithmetic}
use Rattle.golden.specs.declared.Bracket.{Bracket}
use Rattle.golden.specs.Golden.{G, G2}

-- ---- the formulas with the ratio g, 01's G, each operation in 000's order

-- c of the bracket from a to b: a + G2·(b - a), where G2 is G·G
abbrev pub lower_point : {R : Type 0} → Arithmetic R → R → R → R → R
lower_point A g a b = A.plus a (A.times (A.times g g) (A.minus b a))

-- d of it: a + G·(b - a)
abbrev pub upper_point : {R : Type 0} → Arithmetic R → R → R → R → R
upper_point A g a b = A.plus a (A.times g (A.minus b a))

-- the ends a b of a bracket, and the inner points c d that divide it: those of the search
abbrev pub section_of : Bracket → Float × Float × Float × Float
section_of k = (k.a, k.b, k.c, k.d)

-- the bracket from a to b, its inner points at the golden section: the first of a search
unfoldable pub section_at : {R : Type 0} → Arithmetic R → R → R → R → R × R × R × R
section_at A g a b = (a, b, lower_point A g a b, upper_point A g a b)

-- after a round that keeps the part from a to d, c is reused as its d, and its c is new; of the part from c to b, d is reused as its c, and its d is new
unfoldable pub next_section : {R : Type 0} → Arithmetic R → R → Bool → R × R × R × R → R × R × R × R
next_section A g left (a, b, c, d) = cond left (a, d, lower_point A g a d, c) (c, b, d, upper_point A g c b)

-- ---- a commutative ring, as the real numbers are one: nothing is rounded. Of the other operations of A, which the formulas do not use, nothing is asked

pub record CommutativeRing {R : Type 0} (A : Arithmetic R) : Type 0 where
  pub plus_associative : (x y z : R) → A.plus (A.plus x y) z ≡ A.plus x (A.plus y z)
  pub plus_commutative : (x y : R) → A.plus x y ≡ A.plus y x
  pub plus_zero : (x : R) → A.plus x A.nought ≡ x
  pub plus_minus : (x y : R) → A.plus x (A.minus y x) ≡ y
  pub times_associative : (x y z : R) → A.times (A.times x y) z ≡ A.times x (A.times y z)
  pub times_commutative : (x y : R) → A.times x y ≡ A.times y x
  pub times_one : (x : R) → A.times x A.one ≡ x
  pub distributive : (x y z : R) → A.times x (A.plus y z) ≡ A.plus (A.times x y) (A.times x z)

-- ---- what holds there

-- of any ratio g and any bracket from a to b, with h = b - a and e = g² + g - 1, which is 0 where g² = 1 - g
pub record Residues {R : Type 0} (A : Arithmetic R) (g e a b : R) : Type 0 where
  -- c and d are mirror images but for e·h
  pub mirrored : A.plus (lower_point A g a b) (upper_point A g a b) ≡ A.plus (A.plus a b) (A.times e (A.minus b a))
  -- c stands where the part from a to d wants its d
  pub left : upper_point A g a (upper_point A g a b) ≡ lower_point A g a b
  -- d stands where the part from c to b wants its c, but for (g - g²)·e·h
  pub right : lower_point A g (lower_point A g a b) b ≡ A.plus (upper_point A g a b) (A.times (A.minus g (A.times g g)) (A.times e (A.minus b a)))

-- where the ratio g has g² = 1 - g, as (√5 - 1) / 2 of the real numbers, and of any bracket from a to b, with h = b - a
pub record GoldenSection {R : Type 0} (A : Arithmetic R) (g a b : R) : Type 0 where
  -- a + g²·h is b - g·h
  pub from_right : lower_point A g a b ≡ A.minus b (A.times g (A.minus b a))
  -- either part has the width g·h
  pub left_width : A.minus (upper_point A g a b) a ≡ A.times g (A.minus b a)
  pub right_width : A.minus b (lower_point A g a b) ≡ A.times g (A.minus b a)
  -- after a round on either side both points, the reused and the new, stand at the golden section of the part kept
  pub round : (left : Bool) → next_section A g left (section_at A g a b) ≡ section_at A g (cond left a (lower_point A g a b)) (cond left (upper_point A g a b) b)
  -- Kiefer's rule: the new point is the mirror image of the reused one in the part kept
  pub left_new : lower_point A g a (upper_point A g a b) ≡ A.minus (A.plus a (upper_point A g a b)) (lower_point A g a b)
  pub right_new : upper_point A g (lower_point A g a b) b ≡ A.minus (A.plus (lower_point A g a b) b) (upper_point A g a b)

-- ---- how far the binary64 G and G2 are from it

-- G is the fraction num G / den G, G2 is num G2 / den G2
pub record NearGolden : Type 0 where
  -- G² + G is 1 + 38494044947129 / 2^98, and that is below 1 + 2^-52
  pub ratio : (num G * num G + num G * den G) * 2 ^ 98 ≡ den G * den G * (2 ^ 98 + 38_494_044_947_129)
  pub small : 38_494_044_947_129 * 2 ^ 52 < 2 ^ 98
  -- G2 + G is 1 + 2^-53
  pub share : (num G2 * den G + num G * den G2) * 2 ^ 53 ≡ den G2 * den G * (2 ^ 53 + 1)
