-- The distance between two places with finite coordinates is no NaN and not negative, and that of a place from itself is 0. Assumes nothing.
use mathlib.Core.Path.{◌≡◌, refl, sym, ap, ◌∙◌, subst}
use mathlib.Core.Bool.{Bool, true, false, not, ◌&&◌, cond, beq}
use Prim.Native.Nat.{ℕ, ◌+◌, ◌-◌, ◌*◌, ◌<◌}
use native.Mathlib.Nat.{sub_self, lt_irrefl, mul-pos}
use lib.IntN.{pos}
use lib.Dec.{T, ltb, ltb→lt}
use lib.Ieee.{Float, nan, inf, fin, Format, binary64, up, down, round, sum, add, sub, mul, neg, le, of_bits, is_nan}
use lib.Ieee.Fits.{down_pos}
use lib.Ieee.Scale.{finite}
use Rattle.real.specs.Reals.{zero64}
use Rattle.real.proofs.Values.{untrue}
use Rattle.real.proofs.SignedOrder.{nonneg, round_nonneg, round_neg, zero_of}
use Rattle.root.specs.Root.{root}
use Rattle.root.proofs.Order.{nonneg_number, nonneg_above, root_nonneg}
use Rattle.kernel.specs.Weight.{squares_of, distance_of}

abbrev Number : Float → Type 0
Number x = T (not (is_nan x))

-- ---- a difference of finite numbers is no NaN
round_number : (f : Format) (s : Bool) (a c : ℕ) → Number (round f s a c)
round_number f false a c = (nonneg_number (round f false a c) (round_nonneg f a c)).0
round_number f true a c = subst Number (sym (round_neg f a c)) (nonneg_number (round f false a c) (round_nonneg f a c)).1

pick : (b : Bool) (x y : Float) → Number x → Number y → Number (cond b x y)
pick true x y p q = p
pick false x y p q = q

sum_number : (f : Format) (s : Bool) (a : ℕ) (t : Bool) (b c : ℕ) → Number (sum f s a t b c)
unfolding sum
sum_number f s a t b c =
    pick (beq s t) (round f s (a + b) c) (cond (ltb a b) (round f t (b - a) c) (round f (s && ltb b a) (a - b) c)) (round_number f s (a + b) c)
    (pick (ltb a b) (round f t (b - a) c) (round f (s && ltb b a) (a - b) c) (round_number f t (b - a) c) (round_number f (s && ltb b a) (a - b) c))

difference_number : (x y : Float) → T (finite x) → T (finite y) → Number (sub binary64 x y)
unfolding sub add neg
difference_number nan y p q = absurd p
difference_number (inf s) y p q = absurd p
difference_number (fin s m e) nan p q = absurd q
difference_number (fin s m e) (inf t) p q = absurd q
difference_number (fin s m e) (fin t n d) p q = sum_number binary64 s (m * up e * down d) (not t) (n * up d * down e) (down e * down d)

-- ---- squares, their sum and its root have a clear sign
pub square_nonneg : (x : Float) → Number x → T (nonneg (mul binary64 x x))
unfolding mul is_nan
square_nonneg nan p = absurd p
square_nonneg (inf true) p = tt
square_nonneg (inf false) p = tt
square_nonneg (fin true m e) p = round_nonneg binary64 (m * up e * (m * up e)) (down e * down e)
square_nonneg (fin false m e) p = round_nonneg binary64 (m * up e * (m * up e)) (down e * down e)

sum_nonneg : (x y : Float) → T (nonneg x) → T (nonneg y) → T (nonneg (add binary64 x y))
unfolding add sum
sum_nonneg nan y p q = absurd p
sum_nonneg (inf true) y p q = absurd p
sum_nonneg (inf false) nan p q = absurd q
sum_nonneg (inf false) (inf true) p q = absurd q
sum_nonneg (inf false) (inf false) p q = tt
sum_nonneg (inf false) (fin t n d) p q = tt
sum_nonneg (fin true m e) y p q = absurd p
sum_nonneg (fin false m e) nan p q = absurd q
sum_nonneg (fin false m e) (inf true) p q = absurd q
sum_nonneg (fin false m e) (inf false) p q = tt
sum_nonneg (fin false m e) (fin true n d) p q = absurd q
sum_nonneg (fin false m e) (fin false n d) p q = round_nonneg binary64 (m * up e * down d + n * up d * down e) (down e * down d)

-- a sum of squares that is a number is that of numbers
square_of_number : (x : Float) → Number (mul binary64 x x) → Number x
unfolding mul is_nan
square_of_number nan p = absurd p
square_of_number (inf s) p = tt
square_of_number (fin s m e) p = tt

terms_number : (x y : Float) → Number (add binary64 x y) → Number x × Number y
unfolding add is_nan
terms_number nan y p = absurd p
terms_number (inf s) nan p = absurd p
terms_number (inf s) (inf t) p = (tt, tt)
terms_number (inf s) (fin t n d) p = (tt, tt)
terms_number (fin s m e) nan p = absurd p
terms_number (fin s m e) (inf t) p = (tt, tt)
terms_number (fin s m e) (fin t n d) p = (tt, tt)

pub squares_nonneg : (ax ay bx by : Float) → Number (squares_of ax ay bx by) → T (nonneg (squares_of ax ay bx by))
unfolding squares_of
squares_nonneg ax ay bx by p =
    let dx = sub binary64 ax bx in
    let dy = sub binary64 ay by in
    let t = terms_number (mul binary64 dx dx) (mul binary64 dy dy) p in
    sum_nonneg (mul binary64 dx dx) (mul binary64 dy dy) (square_nonneg dx (square_of_number dx t.0)) (square_nonneg dy (square_of_number dy t.1))

module _ (ax ay bx by : Float) (fax : T (finite ax)) (fay : T (finite ay)) (fbx : T (finite bx)) (fby : T (finite by)) where
  pub squares_from_zero : T (nonneg (squares_of ax ay bx by))
  unfolding squares_of
  squares_from_zero =
      let dx = sub binary64 ax bx in
      let dy = sub binary64 ay by in
      sum_nonneg (mul binary64 dx dx) (mul binary64 dy dy) (square_nonneg dx (difference_number ax bx fax fbx)) (square_nonneg dy (difference_number ay by fay fby))

  distance_nonneg : T (nonneg (distance_of ax ay bx by))
  unfolding distance_of
  distance_nonneg = root_nonneg (squares_of ax ay bx by) squares_from_zero

  -- what `weights_in` asks
  pub distance_above : T (le zero64 (distance_of ax ay bx by))
  unfolding of_bits
  distance_above = nonneg_above (distance_of ax ay bx by) distance_nonneg

  pub distance_number : T (not (is_nan (distance_of ax ay bx by)))
  distance_number = (nonneg_number (distance_of ax ay bx by) distance_nonneg).0

-- ---- a place from itself
ltb_self : (a : ℕ) → ltb a a ≡ false
ltb_self a = untrue (ltb a a) (λ t. lt_irrefl a (ltb→lt a a t))

sum_itself : (s : Bool) (a c : ℕ) → 0 < c → sum binary64 s a (not s) a c ≡ fin false 0 (pos 0)
unfolding sum
sum_itself true a c C = rw (ltb_self, sub_self) (zero_of binary64 false c C)
sum_itself false a c C = rw (ltb_self, sub_self) (zero_of binary64 false c C)

less_itself : (x : Float) → T (finite x) → sub binary64 x x ≡ fin false 0 (pos 0)
unfolding sub add neg
less_itself nan p = absurd p
less_itself (inf s) p = absurd p
less_itself (fin s m e) p = sum_itself s (m * up e * down e) (down e * down e) (mul-pos (down_pos e) (down_pos e))

root_of_none : (let z = fin false 0 (pos 0) in root (add binary64 (mul binary64 z z) (mul binary64 z z))) ≡ fin false 0 (pos 0)
unfolding root add mul of_bits
root_of_none = refl

-- what `weight_zero` asks, with s = false
pub distance_own : (x y : Float) → T (finite x) → T (finite y) → distance_of x y x y ≡ fin false 0 (pos 0)
unfolding distance_of squares_of
distance_own x y p q =
    ap (λ (d : Float). root (add binary64 (mul binary64 d d) (mul binary64 (sub binary64 y y) (sub binary64 y y)))) (less_itself x p)
    ∙ ap (λ (d : Float). let z = fin false 0 (pos 0) in root (add binary64 (mul binary64 z z) (mul binary64 d d))) (less_itself y q)
    ∙ root_of_none
