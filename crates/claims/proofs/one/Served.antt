-- What a fit that is not refused from the input answers, and which numbers of its output it leaves alone.
use Rattle.refusal.specs.declared.Refusal.{Refusal}
use Rattle.local.specs.declared.Solved.{Solved}
use Rattle.std.specs.Prelude.{Ok, Err, Some, None, Result, Option, IfOk}
use mathlib.Core.Path.{◌≡◌, refl, sym, ap, subst, subst⁻¹, ◌∙◌}
use mathlib.Core.Bool.{true}
use mathlib.Core.List.{List, ◌++◌}
use mathlib.Core.Logic.{inl, inr}
use Prim.Native.Nat.{ℕ, zero, suc, ◌+◌, ◌*◌, ◌≤◌, ◌<◌}
use native.Mathlib.Nat.{zero-add, sub-zero}
use native.Mathlib.Omega.{arith}
use lib.ListN.{length, take, drop}
use lib.Seq.{take_at, drop_at, take-take, take-add, length-take-le}
use lib.Ieee.{Float}
use Rattle.claims.specs.Words.{turns, range, zero64, GwrBandwidth, Setup, Data, Values, solve_location, row_of, put_row, Sweep, Swept, new_sweep, after_solve, row_found, visit_at, visit, fit_all_locations, solves_after, ending_at, finish_of, Fit, final_of}
use Rattle.claims.proofs.Laws.{here_or_on, row_within, row_long, put_long, beta_eight}
use Rattle.claims.specs.DemandOne.{plus_square, plus_leverage, RowOf, FitAnswered}
use Rattle.claims.proofs.Rows.{next_row, farther, put_behind, put_front}

-- ---- a part of a list

-- it is decided by any front that has it
part_of : (x : List Float) (a k at : ℕ) → a + k ≤ at → at ≤ length x → take k (drop a x) ≡ drop a (take (a + k) (take at x))
part_of x a k at h l = sym (rw (take-take (a + k) at x h, take-add a k x) (drop_at (take a x) (take k (drop a x)) a (length-take-le a x (omega arith))))

part_front : (w z : List Float) (a k at : ℕ) → a + k ≤ at → at ≤ length w → at ≤ length z → take at w ≡ take at z → take k (drop a w) ≡ take k (drop a z)
part_front w z a k at h l m e = part_of w a k at h l ∙ ap (λ (t : List Float). drop a (take (a + k) t)) e ∙ sym (part_of z a k at h m)

-- ---- the final fit's sweep

module _ (u : Setup) (d : Data) (b : GwrBandwidth) (out : List Float) (room : u.n * (u.p + 4) ≤ length out) (narrow : u.p ≤ 7) where
  -- from row r on, the output is as it was; it is as long as it was
  abbrev Left : ℕ → List Float → Type 0
  Left r w = (drop (r * (u.p + 4)) w ≡ drop (r * (u.p + 4)) out) × (length w ≡ length out)

  -- what solving a location says
  abbrev solve : ℕ → Result Solved Refusal
  solve i = solve_location u d b i

  -- whose coefficients are 8 numbers, where it was solved
  eight_of : (i : ℕ) (v : Solved) → solve i ≡ Ok v → length v.beta ≡ 8
  eight_of i v e = subst (λ (o : Result Solved Refusal). IfOk o (λ s. length s.beta ≡ 8)) e (beta_eight u d b i)

  -- a sum over the first i locations
  abbrev summed : (Float → Result Solved Refusal → Float) → ℕ → Float
  summed plus i = turns (λ (q : ℕ) (sum : Float). plus sum (solve q)) 0 i zero64

  sum_more : (plus : Float → Result Solved Refusal → Float) (i : ℕ) (o : Result Solved Refusal) (sum : Float) → solve i ≡ o → sum ≡ summed plus i → plus sum o ≡ summed plus (suc i)
  unfolding turns
  sum_more plus i o sum e h = rw (zero-add, e, h)

  -- row i of the output
  abbrev row_in : List Float → ℕ → List Float
  row_in w i = take (u.p + 4) (drop (i * (u.p + 4)) w)

  -- the locations solved, with their rows
  abbrev Before : ℕ → List Float → Type 0
  Before rows w = (i : ℕ) → i < rows → RowOf (solve_location u d b i) u.p (row_in w i)

  -- before location i: a row for each location, and the sums of all, or a refusal behind the last row
  abbrev SweptTo : Option Refusal → ℕ → Sweep → List Float → Type 0
  SweptTo None i s w = (s.location ≡ i) × Before s.location w × Left s.location w × (s.trace ≡ summed plus_leverage i) × (s.squares ≡ summed plus_square i)
  SweptTo (Some r) i s w = (s.location < i) × (solve s.location ≡ Err r) × Before s.location w × Left s.location w

  abbrev SweptAt : ℕ → Swept × List Float → Type 0
  SweptAt i s = SweptTo s.0.stopped i s.0.sweep s.1

  -- a row put in
  left_put : (i : ℕ) (beta w : List Float) (v : Values) → i < u.n → length beta ≡ 8 → Left i w → Left (i + 1) (put_row w (u.p + 1) i beta v)
  left_put i beta w v l eight h =
      let e : u.p + 1 + 3 ≡ u.p + 4 = omega arith in
      let fits = row_within i u.n (u.p + 4) l in
      let wide : (i + 1) * (u.p + 1 + 3) ≤ length w = rw e (omega (arith, next_row i (u.p + 4), fits, room, h.1)) in (
        rw e at (put_behind w (u.p + 1) i beta v wide (omega (arith, eight, narrow))) ∙ farther (u.p + 4) out i w h.0,
        put_long w u.n (u.p + 1) i beta v (rw e (omega (arith, room, h.1))) l (omega (arith, narrow)) eight ∙ h.1,
      )

  -- the row put in, and those before it
  abbrev put : ℕ → List Float → Solved → List Float
  put i w v = put_row w (u.p + 1) i v.beta v.values

  own_row : (i : ℕ) (w : List Float) (v : Solved) → length v.beta ≡ 8 → i < u.n → length w ≡ length out → row_in (put i w v) i ≡ row_of v.beta (u.p + 1) v.values
  unfolding put_row
  own_row i w v eight l long =
      let e : u.p + 1 + 3 ≡ u.p + 4 = omega arith in
      let at = i * (u.p + 4) in
      let fits : at + (u.p + 4) ≤ u.n * (u.p + 4) = row_within i u.n (u.p + 4) l in
      let row = row_of v.beta (u.p + 1) v.values in
      let wide : length row ≡ u.p + 4 = row_long v.beta (u.p + 1) v.values (omega (arith, eight, narrow)) ∙ e in
      rw (e, drop_at (take at w) (row ++ drop (at + (u.p + 4)) w) at (length-take-le at w (omega (arith, fits, room, long)))) (take_at row (drop (at + (u.p + 4)) w) (u.p + 4) wide)

  other_row : (q i : ℕ) (w : List Float) (v : Solved) → length v.beta ≡ 8 → q < i → i < u.n → length w ≡ length out → row_in (put i w v) q ≡ row_in w q
  other_row q i w v eight h l long =
      let beta = v.beta in
      let e : u.p + 1 + 3 ≡ u.p + 4 = omega arith in
      let fits : i * (u.p + 4) ≤ length w = omega (arith, row_within i u.n (u.p + 4) l, room, long) in
      let same : length (put i w v) ≡ length w = put_long w u.n (u.p + 1) i beta v.values (rw e (omega (arith, room, long))) l (omega (arith, narrow)) eight in
      part_front (put i w v) w (q * (u.p + 4)) (u.p + 4) (i * (u.p + 4)) (row_within q i (u.p + 4) h) (omega (arith, same, fits)) fits
      (rw e at (put_front w (u.p + 1) i beta v.values (rw e fits)))

  one_more : (i : ℕ) (w : List Float) (v : Solved) → i < u.n → length w ≡ length out → solve i ≡ Ok v → Before i w → Before (i + 1) (put i w v)
  one_more i w v l long e h q z =
      elim (here_or_on q i) [
        | inl y ↦ let g = h q y in (g.0, g.1, other_row q i w v (eight_of i v e) y l long ∙ g.2)
        | inr y ↦ let same : q ≡ i = omega arith in subst⁻¹ (λ (r : ℕ). RowOf (solve_location u d b r) u.p (row_in (put i w v) r)) same (v, e, own_row i w v (eight_of i v e) l long)
      ]

  visited : (i : ℕ) (o : Result Solved Refusal) (s : Sweep) (w : List Float) → i < u.n → solve i ≡ o → SweptTo None i s w
      → SweptAt (suc i) (after_solve s o, row_found o u i w)
  visited i (Ok v) s w l z (e, f, h, a, g) = (
    omega arith,
    subst⁻¹ (λ (r : ℕ). Before (r + 1) (put i w v)) e (one_more i w v l h.1 z (subst (λ (r : ℕ). Before r w) e f)),
    subst⁻¹ (λ (r : ℕ). Left (r + 1) (put i w v)) e (left_put i v.beta w v.values l (eight_of i v z) (subst (λ (r : ℕ). Left r w) e h)),
    sum_more plus_leverage i (Ok v) s.trace z a,
    sum_more plus_square i (Ok v) s.squares z g,
  )
  visited i (Err r) s w l z (e, f, h, a, g) = (omega arith, ap solve e ∙ z, f, h)

  go_on : (i : ℕ) (c : Option Refusal) (s : Sweep) (w : List Float) → i < u.n → SweptTo c i s w → SweptAt (suc i) (visit_at c true u d b i (record { stopped = c; sweep = s }, w))
  go_on i None s w l h = visited i (solve i) s w l refl h
  go_on i (Some r) s w l h = (omega (arith, h.0), h.1, h.2, h.3)

  swept_turns : (i : ℕ) → i ≤ u.n → SweptAt i (turns (visit true u d b) 0 i (record { stopped = None; sweep = new_sweep }, out))
  unfolding turns visit
  swept_turns zero h = (refl, λ i l. absurd (omega arith), (refl, refl), refl, refl)
  swept_turns (suc i) h =
      let s = turns (visit true u d b) 0 i (record { stopped = None; sweep = new_sweep }, out) in
      rw zero-add (go_on i s.0.stopped s.0.sweep s.1 (omega arith) (swept_turns i (omega arith)))

  swept_whole : SweptAt u.n (fit_all_locations true u d b out)
  unfolding fit_all_locations range
  swept_whole = rw sub-zero (swept_turns u.n (omega arith))

  -- ---- its answer

  answered : (c : Option Refusal) (s : Sweep) (searched : ℕ) (w : List Float) → SweptTo c u.n s w
      → FitAnswered (finish_of (ending_at c u s) b (searched + solves_after c s.location)) solve b searched s.location u
  unfolding range
  answered None s searched w (e, f, h, a, g) = inr (e, rw (sub-zero, e, a, g))
  answered (Some r) s searched w h = inl (h.0, r, h.1, refl)

  left_of : (c : Option Refusal) (s : Sweep) (w : List Float) → SweptTo c u.n s w → Before s.location w × Left s.location w
  left_of None s w h = (h.1, h.2)
  left_of (Some r) s w h = (h.2, h.3)

-- a final fit of the data d at the bandwidth b, after the search's solves
pub record Finished (u : Setup) (d : Data) (b : GwrBandwidth) (searched : ℕ) (out : List Float) (f : Fit × List Float) : Type 0 where
  pub answered : FitAnswered f.0.finish (solve_location u d b) b searched f.0.rows u
  pub written : (i : ℕ) → i < f.0.rows → RowOf (solve_location u d b i) u.p (take (u.p + 4) (drop (i * (u.p + 4)) f.1))
  pub untouched : let from = f.0.rows * (u.p + 4) in drop from f.1 ≡ drop from out
  pub long : length f.1 ≡ length out

pub final_finished : (u : Setup) (d : Data) (b : GwrBandwidth) (searched : ℕ) (out : List Float) → u.n * (u.p + 4) ≤ length out → u.p ≤ 7
    → Finished u d b searched out (final_of u d b searched out)
unfolding final_of
final_finished u d b searched out room narrow =
    let s = fit_all_locations true u d b out in
    let z = s.0 in
    let h = swept_whole u d b out room narrow in
    let l = left_of u d b out room narrow z.stopped z.sweep s.1 h in
    record {
      answered = answered u d b out room narrow z.stopped z.sweep searched s.1 h;
      written = l.0;
      untouched = l.1.0;
      long = l.1.1;
    }
