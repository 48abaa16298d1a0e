-- The bracket's definitions against 000's text: the constants, a round written out, and what becomes of the best point.
use mathlib.Core.Path.{◌≡◌, refl}
use mathlib.Core.Bool.{Bool, true, false, cond}
use mathlib.Core.Logic.{◌⊎◌, inl, inr}
use lib.Ieee.{Float, binary64, add, sub, mul, div, lt, le, of_bits}
use Rattle.root.specs.Root.{root}
use Rattle.golden.specs.declared.Bracket.{Bracket}
use Rattle.golden.specs.Golden.{inv_phi, inv_phi2, G, G2, second_of, aim_of, improved_of, narrow_of}

-- the constants of the code are the numbers that 000 works out
pub G-is : G ≡ inv_phi
unfolding inv_phi root sub div of_bits
G-is = refl

pub G2-is : G2 ≡ inv_phi2
unfolding inv_phi2 inv_phi root sub div mul of_bits
G2-is = refl

-- the body of 000's loop, for the score f, with its assignments as they stand there
unfoldable pub round_000 : (Float → Float) → Bracket → Bracket
round_000 f g =
    cond (lt g.fc g.fd)
    (let b = g.d in
    let d = g.c in
    let fd = g.fc in
    let h = sub binary64 b g.a in
    let c = add binary64 g.a (mul binary64 inv_phi2 h) in
    let fc = f c in
    record { a = g.a; b = b; c = c; d = d; h = h; fc = fc; fd = fd; best = cond (lt fc g.low) c g.best; low = cond (lt fc g.low) fc g.low })
    (let a = g.c in
    let c = g.d in
    let fc = g.fd in
    let h = sub binary64 g.b a in
    let d = add binary64 a (mul binary64 inv_phi h) in
    let fd = f d in
    record { a = a; b = g.b; c = c; d = d; h = h; fc = fc; fd = fd; best = cond (lt fd g.low) d g.best; low = cond (lt fd g.low) fd g.low })

-- a round is 000's, the trial being at `aim_of g`
pub round_is : (f : Float → Float) (g : Bracket) → narrow_of g (f (aim_of g)) ≡ round_000 f g
unfolding narrow_of improved_of aim_of round_000
round_is f g = go (lt g.fc g.fd) refl
  where
    go : (b : Bool) → lt g.fc g.fd ≡ b → narrow_of g (f (aim_of g)) ≡ round_000 f g
    go true e = rw (e, ← G2-is)
    go false e = rw (e, ← G-is)

-- after a round the best point is the old one with its score, or the point tried, whose score is strictly lower
pub best_is : (g : Bracket) (s : Float) →
    (((narrow_of g s).best ≡ g.best) × ((narrow_of g s).low ≡ g.low))
    ⊎ (((narrow_of g s).best ≡ aim_of g) × ((narrow_of g s).low ≡ s) × (lt s g.low ≡ true))
unfolding narrow_of improved_of
best_is g s = go (lt g.fc g.fd) (lt s g.low) refl refl
  where
    go : (b t : Bool) → lt g.fc g.fd ≡ b → lt s g.low ≡ t →
        (((narrow_of g s).best ≡ g.best) × ((narrow_of g s).low ≡ g.low))
        ⊎ (((narrow_of g s).best ≡ aim_of g) × ((narrow_of g s).low ≡ s) × (lt s g.low ≡ true))
    go true true e h = inr (rw (e, h), rw (e, h), h)
    go false true e h = inr (rw (e, h), rw (e, h), h)
    go true false e h = inl (rw (e, h), rw (e, h))
    go false false e h = inl (rw (e, h), rw (e, h))

-- after the second trial it is c or d, whichever scored lower, c where they are equal
pub best_of_two : (g : Bracket) (s : Float) →
    (((second_of g s).best ≡ g.c) × ((second_of g s).low ≡ g.fc) × (le g.fc s ≡ true))
    ⊎ (((second_of g s).best ≡ g.d) × ((second_of g s).low ≡ s) × (le g.fc s ≡ false))
unfolding second_of
best_of_two g s = go (le g.fc s) refl
  where
    go : (b : Bool) → le g.fc s ≡ b →
        (((second_of g s).best ≡ g.c) × ((second_of g s).low ≡ g.fc) × (le g.fc s ≡ true))
        ⊎ (((second_of g s).best ≡ g.d) × ((second_of g s).low ≡ s) × (le g.fc s ≡ false))
    go true e = inl (rw e, rw e, e)
    go false e = inr (rw e, rw e, e)
