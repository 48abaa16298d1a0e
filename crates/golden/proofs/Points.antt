-- The places of the points as specs/Points states them.
use mathlib.Core.Path.{◌≡◌, refl, sym, ap, ◌∙◌}
use mathlib.Core.Bool.{Bool, true, false, cond}
use lib.Dec.{lit<}
use lib.Ieee.{Float, binary64, mul, lt, of_bits}
use Rattle.real.specs.Arithmetic.{Arithmetic, rounded}
use Rattle.golden.specs.declared.Bracket.{Bracket}
use Rattle.golden.specs.Golden.{G, G2, start_of, goes_left, aim_of, improved_of, narrow_of}
use Rattle.golden.specs.Points.{lower_point, upper_point, section_of, section_at, next_section, CommutativeRing, Residues, GoldenSection, NearGolden}

-- ---- how far G and G2 are from the golden section
pub near_golden : NearGolden
unfolding of_bits
near_golden = record { ratio = refl; small = lit< tt; share = refl }

-- ---- the points of the search are those of the formulas, rounded
square_is : G2 ≡ mul binary64 G G
unfolding mul of_bits
square_is = refl

pub start_section : (lo hi : Float) → section_of (start_of lo hi) ≡ section_at rounded G lo hi
unfolding start_of section_at
start_section lo hi = rw square_is

pub round_section : (g : Bracket) (s : Float) → section_of (narrow_of g s) ≡ next_section rounded G (goes_left g) (section_of g)
unfolding narrow_of improved_of aim_of next_section
round_section g s = go (lt g.fc g.fd) refl
  where
    go : (b : Bool) → lt g.fc g.fd ≡ b → section_of (narrow_of g s) ≡ next_section rounded G (goes_left g) (section_of g)
    go true e = rw (e, square_is)
    go false e = rw e

-- ---- the laws of a commutative ring that the identities take
module _ {R : Type 0} (A : Arithmetic R) (K : CommutativeRing A) where
  open A use {nought as 𝟘, one as 𝟙, plus as ◌+◌, minus as ◌-◌, times as ◌*◌}
  open K use {plus_associative, plus_commutative, plus_zero, plus_minus as back, times_associative, times_commutative, times_one, distributive}

  infixl 6 ◌+◌
  infixl 6 ◌-◌
  infixl 7 ◌*◌
  -- c and d of the bracket from a to b, with the ratio g
  abbrev low : R → R → R → R
  low = lower_point A

  abbrev high : R → R → R → R
  high = upper_point A

  -- (x + y) + (0 - x) = y
  taken : (x y : R) → x + y + (𝟘 - x) ≡ y
  taken x y = rw (plus_commutative x y, plus_associative y x (𝟘 - x), back x 𝟘) (plus_zero y)

  cancel : (x y z : R) → x + y ≡ x + z → y ≡ z
  cancel x y z e = sym (taken x y) ∙ ap (λ (v : R). v + (𝟘 - x)) e ∙ taken x z

  -- (x + y) - x = y
  less_first : (x y : R) → x + y - x ≡ y
  less_first x y = cancel x (x + y - x) y (back x (x + y))

  -- x - x = 0
  nothing_left : (x : R) → x - x ≡ 𝟘
  nothing_left x = cancel x (x - x) 𝟘 (back x x ∙ sym (plus_zero x))

  -- x = z - y where x + y = z
  from_sum : (x y z : R) → x + y ≡ z → x ≡ z - y
  from_sum x y z e = sym (less_first y x) ∙ ap (λ (v : R). v - y) (plus_commutative y x ∙ e)

  over_sum : (x y z : R) → (x + y) * z ≡ x * z + y * z
  over_sum x y z = times_commutative (x + y) z ∙ distributive z x y ∙ rw (times_commutative z x, times_commutative z y)

  one_times : (x : R) → 𝟙 * x ≡ x
  one_times x = times_commutative 𝟙 x ∙ times_one x

  times_zero : (x : R) → x * 𝟘 ≡ 𝟘
  times_zero x = cancel (x * 𝟘) (x * 𝟘) 𝟘 (sym (distributive x 𝟘 𝟘) ∙ ap (λ (v : R). x * v) (plus_zero 𝟘) ∙ sym (plus_zero (x * 𝟘)))

  -- (x + y) + (x + z) = (x + (x + (y + z)))
  gathered : (x y z : R) → x + y + (x + z) ≡ x + (x + (y + z))
  gathered x y z =
      plus_associative x y (x + z)
      ∙ ap (λ (v : R). x + v) (sym (plus_associative y x z) ∙ ap (λ (v : R). v + z) (plus_commutative y x) ∙ plus_associative x y z)

  module _ (g a b : R) where
    abbrev h : R
    h = b - a

    abbrev e : R
    e = g * g + g - 𝟙

    abbrev c : R
    c = low g a b

    abbrev d : R
    d = high g a b

    -- g²·w + g·w = w + e·w
    both : (w : R) → g * g * w + g * w ≡ w + e * w
    both w = sym (over_sum (g * g) g w) ∙ ap (λ (v : R). v * w) (sym (back 𝟙 (g * g + g))) ∙ over_sum 𝟙 e w ∙ ap (λ (v : R). v + e * w) (one_times w)

    -- c + g·h = b + e·h
    lower_right : c + g * h ≡ b + e * h
    lower_right = plus_associative a (g * g * h) (g * h) ∙ ap (λ (v : R). a + v) (both h) ∙ sym (plus_associative a h (e * h)) ∙ ap (λ (v : R). v + e * h) (back a b)

    -- the width of the part from c to b, e·h more, is g·h
    right_part : b - c + e * h ≡ g * h
    right_part = cancel c (b - c + e * h) (g * h) (sym (plus_associative c (b - c) (e * h)) ∙ ap (λ (v : R). v + e * h) (back c b) ∙ sym lower_right)

    left_part : d - a ≡ g * h
    left_part = less_first a (g * h)

    left_reused : high g a d ≡ c
    left_reused = ap (λ (v : R). a + g * v) left_part ∙ ap (λ (v : R). a + v) (sym (times_associative g g h))

    -- the part from c to b wants its c at d, but for what e·h makes of it
    right_place : low g c b + g * g * (e * h) ≡ d + g * (e * h)
    right_place =
        plus_associative c (g * g * (b - c)) (g * g * (e * h))
        ∙ ap (λ (v : R). c + v) (sym (distributive (g * g) (b - c) (e * h)) ∙ ap (λ (v : R). g * g * v) right_part)
        ∙ plus_associative a (g * g * h) (g * g * (g * h))
        ∙ ap (λ (v : R). a + v) (ap (λ (v : R). v + g * g * (g * h)) (times_associative g g h) ∙ plus_commutative (g * (g * h)) (g * g * (g * h)) ∙ both (g * h))
        ∙ ap (λ (v : R). a + (g * h + v)) (sym (times_associative e g h) ∙ ap (λ (v : R). v * h) (times_commutative e g) ∙ times_associative g e h)
        ∙ sym (plus_associative a (g * h) (g * (e * h)))

    pub residues : Residues A g (g * g + g - 𝟙) a b
    residues =
        let u = e * h in
        let v = (g - (g * g)) * u in
        record {
          mirrored =
              gathered a (g * g * h) (g * h)
              ∙ ap (λ (w : R). a + (a + w)) (both h)
              ∙ ap (λ (w : R). a + w) (sym (plus_associative a h u) ∙ ap (λ (w : R). w + u) (back a b))
              ∙ sym (plus_associative a b u);
          left = left_reused;
          right =
              from_sum (low g c b) (g * g * u) (d + g * u) right_place
              ∙ sym
              (from_sum (d + v) (g * g * u) (d + g * u)
              (plus_associative d v (g * g * u)
              ∙ ap (λ (w : R). d + w) (sym (over_sum (g - (g * g)) (g * g) u) ∙ ap (λ (w : R). w * u) (plus_commutative (g - (g * g)) (g * g) ∙ back (g * g) g))));
        }

  -- ---- the golden section
  module _ (g : R) (gold : g * g ≡ 𝟙 - g) where
    no_residual : (w : R) → (g * g + g - 𝟙) * w ≡ 𝟘
    no_residual w =
        ap (λ (v : R). (v + g - 𝟙) * w) gold
        ∙ ap (λ (v : R). (v - 𝟙) * w) (plus_commutative (𝟙 - g) g ∙ back g 𝟙)
        ∙ ap (λ (v : R). v * w) (nothing_left 𝟙)
        ∙ times_commutative 𝟘 w
        ∙ times_zero w

    module _ (a b : R) where
      -- c + d = a + b
      mirror : low g a b + high g a b ≡ a + b
      mirror = (residues g a b).mirrored ∙ ap (λ (v : R). a + b + v) (no_residual (b - a)) ∙ plus_zero (a + b)

      right_reused : low g (low g a b) b ≡ high g a b
      right_reused =
          (residues g a b).right
          ∙ ap (λ (v : R). high g a b + (g - (g * g)) * v) (no_residual (b - a))
          ∙ ap (λ (v : R). high g a b + v) (times_zero (g - (g * g)))
          ∙ plus_zero (high g a b)

    pub golden_section : (a b : R) → GoldenSection A g a b
    unfolding section_at next_section
    golden_section a b =
        record {
          from_right = from_sum (low g a b) (g * (b - a)) b (lower_right g a b ∙ ap (λ (v : R). b + v) (no_residual (b - a)) ∙ plus_zero b);
          left_width = left_part g a b;
          right_width = sym (plus_zero (b - low g a b)) ∙ ap (λ (v : R). b - low g a b + v) (sym (no_residual (b - a))) ∙ right_part g a b;
          round = λ left. sides left;
          left_new = from_sum (low g a (high g a b)) (low g a b) (a + high g a b) (ap (λ (v : R). low g a (high g a b) + v) (sym (left_reused g a b)) ∙ mirror a (high g a b));
          right_new =
              from_sum (high g (low g a b) b) (high g a b) (low g a b + b)
              (plus_commutative (high g (low g a b) b) (high g a b) ∙ ap (λ (v : R). v + high g (low g a b) b) (sym (right_reused a b)) ∙ mirror (low g a b) b);
        }
      where
        sides : (left : Bool) → next_section A g left (section_at A g a b) ≡ section_at A g (cond left a (low g a b)) (cond left (high g a b) b)
        sides true = ap (λ (v : R). (a, high g a b, low g a (high g a b), v)) (sym (left_reused g a b))
        sides false = ap (λ (v : R). (low g a b, b, v, high g (low g a b) b)) (sym (right_reused a b))
