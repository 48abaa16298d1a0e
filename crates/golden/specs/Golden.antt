-- The golden section search of 000's `golden_section_min`, as a bracket that trials narrow. Definitions only.
use Rattle.std.specs.Prelude.{Bool, cond, Float}
use Rattle.std.specs.Float.{binary64}
use Rattle.std.specs.Float.Ieee.{add, sub, mul, div, lt, le, of_bits}
use Rattle.real.specs.Reals.{zero64, one64, two64, eps64, magnitude}
use Rattle.root.specs.Root.{root}
use Rattle.golden.specs.declared.Bracket.{Bracket}

-- ---- G and G2

-- 000's `inv_phi`, 01's G: the root of 5, less 1, over 2
unfoldable pub inv_phi : Float
inv_phi = div binary64 (sub binary64 (root (of_bits binary64 0x4014_0000_0000_0000)) one64) two64

-- 000's `inv_phi2`, 01's G2: G·G
unfoldable pub inv_phi2 : Float
inv_phi2 = mul binary64 inv_phi inv_phi

-- G as the code has it: `G-is` of proofs/Round says that it is `inv_phi`
abbrev pub G : Float
G = of_bits binary64 0x3FE3_C6EF_372F_E950

-- G2 as the code has it: `G2-is` of proofs/Round says that it is `inv_phi2`
abbrev pub G2 : Float
G2 = of_bits binary64 0x3FD8_7221_91A0_2D62

-- ---- the bracket

-- before a search: zeros, which no rule reads
abbrev pub no_bracket : Bracket
no_bracket = record { a = zero64; b = zero64; c = zero64; d = zero64; h = zero64; fc = zero64; fd = zero64; best = zero64; low = zero64 }

-- 000: `h = b - a`; 01: trial 1 is c = a + G2·h, trial 2 is d = a + G·h
unfoldable pub start_of : Float → Float → Bracket
start_of lo hi =
    let h = sub binary64 hi lo in
    record { a = lo; b = hi; c = add binary64 lo (mul binary64 G2 h); d = add binary64 lo (mul binary64 G h); h = h; fc = zero64; fd = zero64; best = zero64; low = zero64 }

-- 000: `fc = f(c)`
abbrev pub first_of : Bracket → Float → Bracket
first_of g s = record { a = g.a; b = g.b; c = g.c; d = g.d; h = g.h; fc = s; fd = g.fd; best = g.best; low = g.low }

-- 000: `fd = f(d)`; 01: best is c if fc ≤ fd, else d
unfoldable pub second_of : Bracket → Float → Bracket
second_of g s =
    let first = le g.fc s in
    record { a = g.a; b = g.b; c = g.c; d = g.d; h = g.h; fc = g.fc; fd = s; best = cond first g.c g.d; low = cond first g.fc s }

-- 000's test `fc < fd`: the next round keeps the part from a to d
abbrev pub goes_left : Bracket → Bool
goes_left g = lt g.fc g.fd

-- the point that a round tries: 000's `c` of its first branch, its `d` of the other
unfoldable pub aim_of : Bracket → Float
aim_of g =
    cond (goes_left g) (add binary64 g.a (mul binary64 G2 (sub binary64 g.d g.a)))
    (add binary64 g.c (mul binary64 G (sub binary64 g.b g.c)))

-- after a trial at x with the score s; 01: only a strictly lower score replaces best
unfoldable pub improved_of : Bracket → Float → Float → Bracket
improved_of g x s =
    let lower = lt s g.low in
    record { a = g.a; b = g.b; c = g.c; d = g.d; h = g.h; fc = g.fc; fd = g.fd; best = cond lower x g.best; low = cond lower s g.low }

-- 000's first branch of a round: the part from a to d stays, x is its new c with the score s
abbrev pub left_of : Bracket → Float → Float → Bracket
left_of g x s =
    record { a = g.a; b = g.d; c = x; d = g.c; h = sub binary64 g.d g.a; fc = s; fd = g.fc; best = g.best; low = g.low }

-- 000's second branch of a round: the part from c to b stays, x is its new d with the score s
abbrev pub right_of : Bracket → Float → Float → Bracket
right_of g x s =
    record { a = g.c; b = g.b; c = g.d; d = x; h = sub binary64 g.b g.c; fc = g.fd; fd = s; best = g.best; low = g.low }

-- a round of 000, whose trial at `aim_of g` has the score s: the side of the lower score stays
unfoldable pub narrow_of : Bracket → Float → Bracket
narrow_of g s =
    let k = improved_of g (aim_of g) s in
    cond (goes_left g) (left_of k (aim_of g) s) (right_of k (aim_of g) s)

-- 01: the final fit follows |h| ≤ EPS after a round
unfoldable pub tight_of : Bracket → Bool
tight_of g = le (magnitude g.h) eps64
