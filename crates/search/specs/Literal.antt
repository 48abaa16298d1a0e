-- `golden_section_min` as 000 has it, with variables of its own: `golden_literal` of proofs/Literal says that `golden_of` is this. Definitions only.
use Rattle.std.specs.Prelude.{ℕ, zero, suc, ◌+◌, cond, Float}
use Rattle.std.specs.Float.{binary64}
use Rattle.std.specs.Float.Ieee.{add, sub, mul, lt, le, of_bits}
use Rattle.real.specs.Reals.{magnitude, lesser}
use Rattle.golden.specs.Golden.{inv_phi, inv_phi2}
use Rattle.search.specs.declared.Trial.{Trial}

-- its variables `a`, `b`, `c`, `d`, `h`, `fc`, `fd`, `best_x`, `best_f`, and the solves that calls of `f` have made
pub record Variables : Type 0 where
  pub a : Float
  pub b : Float
  pub c : Float
  pub d : Float
  pub h : Float
  pub fc : Float
  pub fd : Float
  pub best_x : Float
  pub best_f : Float
  pub solves : ℕ

-- `if fc < fd { .. } else { .. }`, assignment by assignment; a value that is assigned again is a new one here
unfoldable pub loop_body : (Float → Trial) → Variables → Variables
loop_body f v =
    cond (lt v.fc v.fd)
    (let a = v.a in
    let b = v.d in
    let d = v.c in
    let fd = v.fc in
    let h = sub binary64 b a in
    let c = add binary64 a (mul binary64 inv_phi2 h) in
    let t = f c in
    let fc = t.score in
    let best_f = cond (lt fc v.best_f) fc v.best_f in
    let best_x = cond (lt fc v.best_f) c v.best_x in
    record { a = a; b = b; c = c; d = d; h = h; fc = fc; fd = fd; best_x = best_x; best_f = best_f; solves = v.solves + t.solves })
    (let a = v.c in
    let b = v.b in
    let c = v.d in
    let fc = v.fd in
    let h = sub binary64 b a in
    let d = add binary64 a (mul binary64 inv_phi h) in
    let t = f d in
    let fd = t.score in
    let best_f = cond (lt fd v.best_f) fd v.best_f in
    let best_x = cond (lt fd v.best_f) d v.best_x in
    record { a = a; b = b; c = c; d = d; h = h; fc = fc; fd = fd; best_x = best_x; best_f = best_f; solves = v.solves + t.solves })

-- the loop with k rounds to go: the body, then `if h.abs() <= f64::EPSILON { break; }`
unfoldable pub loop_for : (Float → Trial) → ℕ → Variables → Variables
loop_for f zero v = v
loop_for f (suc k) v =
    let w = loop_body f v in
    cond (le (magnitude w.h) (of_bits binary64 0x3CB0_0000_0000_0000)) w (loop_for f k w)

-- the lines before the loop
abbrev pub before_loop : (Float → Trial) → Float → Float → Variables
before_loop f a b =
    let h = sub binary64 b a in
    let c = add binary64 a (mul binary64 inv_phi2 h) in
    let d = add binary64 a (mul binary64 inv_phi h) in
    let first = f c in
    let second = f d in
    let fc = first.score in
    let fd = second.score in
    let best_x = cond (le fc fd) c d in
    let best_f = lesser fc fd in
    record { a = a; b = b; c = c; d = d; h = h; fc = fc; fd = fd; best_x = best_x; best_f = best_f; solves = first.solves + second.solves }

-- the point that it returns, and the solves
unfoldable pub golden_section_min : (Float → Trial) → Float → Float → Float × ℕ
golden_section_min f a b =
    let v = loop_for f 100 (before_loop f a b) in
    cond (le b a) (a, 0) (v.best_x, v.solves)
