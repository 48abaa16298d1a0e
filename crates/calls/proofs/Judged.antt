-- The fit call goes by its list of tests: what the code's ladder does is what the list says.
use Rattle.std.specs.Prelude.{Result}
use mathlib.Core.Path.{◌≡◌, refl, sym, ap, ◌∙◌}
use mathlib.Core.Bool.{Bool, true, false, cond, ◌||◌}
use mathlib.Core.List.{List, ◌∷◌, ◌++◌, append_assoc}
use Prim.Native.Nat.{ℕ, ◌+◌, ◌*◌, ◌/◌, ◌%◌, ◌≤◌, ◌<◌}
use native.Mathlib.Nat.{mul-le-mul}
use native.Mathlib.Omega.{arith}
use borrow.Author.Tests.{eq-eqb, ne_eqb, lt-ltb, le-ltb}
use lib.Dec.{ltb}
use lib.ListN.{length, replicate, length-replicate}
use lib.Ieee.{Float}
use Rattle.std.specs.Prelude.{Ok, Err}
use Rattle.real.specs.Reals.{zero64}
use Rattle.wire.proofs.Decoding.{length_reals}
use Rattle.refusal.specs.declared.Refusal.{Refusal}
use Rattle.refusal.specs.declared.Refusal.TheVariants.{TooFewObservations, OutputTooShort}
use Rattle.setup.specs.declared.GwrOptions.{GwrOptions}
use Rattle.setup.specs.Data.{Data, trust_count}
use Rattle.setup.specs.Shape.{setup_of}
use Rattle.checks.specs.Judge.{Check, judge, ruled, NoneOf, Decides}
use Rattle.checks.proofs.Judge.{ruled_append, ruled_refused, ruled_pass, none_head, none_append, decides}
use Rattle.input.specs.Checks.{shape_tests, value_tests, output_tests, input_tests, option_tests, fit_tests}
use Rattle.gwr.specs.declared.Fit.{Fit}
use Rattle.gwr.specs.Fit.{gwr_fit}
use Rattle.request.specs.Options.{options_of, named}
use Rattle.request.proofs.Lengths.{passed}
use Rattle.request.proofs.Options.{options_refused}
use Rattle.calls.specs.Calls.{numbers_of, lent_too_short, number_tests, call_tests, AfterCall, refused_call, fitted_bytes, numbers_fit, fit_bytes, room_of, fit_parts}
use Rattle.request.specs.Lengths.{byte_tests, ByteLengths}
use Rattle.gwr.proofs.Bounds.{fit_decides}

-- ---- 13

-- with 24 bytes for the summary and 8·n·(p + 4) for the output there is room for every row
pub room_enough : (n p out summary : ℕ) → lent_too_short n p out summary ≡ false → room_of n p out summary ≡ n * (p + 4)
unfolding room_of
room_enough n p out summary h = go (ltb out (8 * (n * (p + 4)))) (ltb summary 24) h
  where
    go : (a b : Bool) → (a || b) ≡ false → cond b 0 (cond a 0 (n * (p + 4))) ≡ n * (p + 4)
    go true b e = cc
    go false true e = cc
    go false false e = refl

-- the fit finds its room too short exactly where the bytes are
room_short : (n p out summary : ℕ) → 1 ≤ n → ltb (room_of n p out summary) (n * (p + 4)) ≡ lent_too_short n p out summary
unfolding room_of
room_short n p out summary some = go (ltb out (8 * (n * (p + 4)))) (ltb summary 24)
  where
    wide : 0 < n * (p + 4)
    wide = let h : 1 * 4 ≤ n * (p + 4) = mul-le-mul some (let k : 4 ≤ p + 4 = omega arith in k) in omega (arith, h)

    go : (a b : Bool) → ltb (cond b 0 (cond a 0 (n * (p + 4)))) (n * (p + 4)) ≡ (a || b)
    go true true = lt-ltb 0 (n * (p + 4)) wide
    go false true = lt-ltb 0 (n * (p + 4)) wide
    go true false = lt-ltb 0 (n * (p + 4)) wide
    go false false = le-ltb (n * (p + 4)) (n * (p + 4)) (omega arith)

-- ---- the fit's own list, behind 1 to 6 of bytes

-- of numbers that are as many as n and p say, the fit's 1 to 7 come down to 7
shape_rest : (coords x y trusts n p : ℕ) (l : List (Bool × Refusal)) → coords ≡ 2 * n → x ≡ n * p → y ≡ n → trusts ≡ n → 1 ≤ n → n ≤ 512 → p ≤ 7
    → judge (shape_tests coords x y trusts p ++ l) ≡ judge ((ltb n (p + 1), TooFewObservations) ∷ l)
unfolding judge shape_tests
shape_rest coords x y trusts n p l ec ex ey et some few narrow =
    let half : coords / 2 ≡ n = omega (arith, ec) in
    let none : coords ≡ 0 → ⊥ = λ q. omega (arith, ec, some, q) in
    let odd : coords % 2 ≡ 1 → ⊥ = λ q. omega (arith, ec, q) in
    rw (half, ne_eqb coords 0 none, ne_eqb (coords % 2) 1 odd, le-ltb 512 n few, le-ltb 7 p narrow, eq-eqb x (n * p) ex, eq-eqb y n ey, eq-eqb trusts n et)

module _ (coords x y : List ℕ) (p : ℕ) (o : GwrOptions) (out summary : ℕ) (lengths : ByteLengths (length coords) (length x) (length y) p) where
  abbrev n : ℕ
  n = length coords / 16

  abbrev d : Data
  d = numbers_of coords x y p

  abbrev room : ℕ
  room = room_of n p out summary

  pub fit_judged : judge (fit_tests d p o room) ≡ judge (number_tests coords x y p o out summary)
  unfolding input_tests output_tests number_tests
  fit_judged =
      let places : length d.coords ≡ 2 * n = length_reals coords (2 * n) in
      let half : length d.coords / 2 ≡ n = omega (arith, places) in
      let shape = shape_tests (length d.coords) (length d.predictors) (length d.responses) (trust_count d) p in
      let options = option_tests (setup_of d p o) d in
      let test : ltb room (length d.coords / 2 * (p + 4)) ≡ lent_too_short n p out summary = ap (λ (k : ℕ). ltb room (k * (p + 4))) half ∙ room_short n p out summary lengths.some in
      ap judge (append_assoc shape (value_tests d ++ output_tests (length d.coords / 2) p room) options)
      ∙ shape_rest (length d.coords) (length d.predictors) (length d.responses) (trust_count d) n p _ places (length_reals x (n * p)) (length_reals y n) (length-replicate _ _ ∙ length_reals y n) lengths.some lengths.few lengths.narrow
      ∙ ap (λ (l : List (Bool × Refusal)). judge ((ltb n (p + 1), TooFewObservations) ∷ l)) (append_assoc (value_tests d) (output_tests (length d.coords / 2) p room) options)
      ∙ ap (λ (t : Bool). judge ((ltb n (p + 1), TooFewObservations) ∷ (value_tests d ++ ((t, OutputTooShort) ∷ options)))) test

-- ---- the fit call

module _ (coords x y : List ℕ) (p : ℕ) (out summary : List ℕ) where
  abbrev refuse : Refusal → AfterCall
  refuse r = refused_call r out summary

  abbrev given : GwrOptions → AfterCall
  given o = fitted_bytes p (numbers_fit coords x y p o) out summary

  abbrev rest : GwrOptions → List (Bool × Refusal)
  rest o = number_tests coords x y p o (length out) (length summary)

  abbrev bytes : List (Bool × Refusal)
  bytes = byte_tests (length coords) (length x) (length y) p

  -- the fit of bytes of the right lengths goes by the rest of the list
  pub parts_judged : (o : GwrOptions) → ByteLengths (length coords) (length x) (length y) p → fit_parts coords x y p o out summary ≡ ruled (judge (rest o)) refuse (given o)
  unfolding fit_parts number_tests
  parts_judged o lengths = go (judge (rest o)) refl
    where
      n : ℕ
      n = length coords / 16

      room : ℕ
      room = room_of n p (length out) (length summary)

      fits : judge (fit_tests (numbers_of coords x y p) p o (length (replicate room zero64))) ≡ judge (rest o)
      fits = ap (λ (k : ℕ). judge (fit_tests (numbers_of coords x y p) p o k)) (length-replicate room zero64) ∙ fit_judged coords x y p o (length out) (length summary) lengths

      go : (k : Check) → judge (rest o) ≡ k → fitted_bytes p (gwr_fit (numbers_of coords x y p) p o (replicate room zero64)) out summary ≡ ruled (judge (rest o)) refuse (given o)
      go (Err r) e =
          ap (λ (f : Result Fit Refusal × List Float). fitted_bytes p f out summary) ((fit_decides (numbers_of coords x y p) p o (replicate room zero64)).refused r (fits ∙ e)) ∙ sym (ruled_refused refuse (given o) e)
      go (Ok passed) e =
          let behind = (none_append (value_tests (numbers_of coords x y p)) _ (none_head _ _ _ e).1).1 in
          let enough = room_enough n p (length out) (length summary) (none_head _ _ _ behind).0 in
          ap (λ (k : ℕ). fitted_bytes p (gwr_fit (numbers_of coords x y p) p o (replicate k zero64)) out summary) enough ∙ sym (ruled_pass refuse (given o) e)

  module _ (kernel kind bandwidth : ℕ) where
    abbrev call : AfterCall
    call = fit_bytes coords x y p kernel kind bandwidth out summary

    -- 18
    pub call_unknown : {r : Refusal} → options_of kernel kind bandwidth ≡ Err r → call ≡ refuse r
    unfolding fit_bytes call_tests judge ruled
    call_unknown e = rw e (ap refuse (sym (options_refused kernel kind bandwidth e)))

    -- behind 18
    call_known : (o : GwrOptions) → options_of kernel kind bandwidth ≡ Ok o → call ≡ ruled (judge bytes) refuse (ruled (judge (rest o)) refuse (given o))
    unfolding fit_bytes call_tests judge
    call_known o e = rw e (ruled_append refuse (given o) bytes (rest o))

    pub call_bytes : (o : GwrOptions) (r : Refusal) → options_of kernel kind bandwidth ≡ Ok o → judge bytes ≡ Err r → call ≡ refuse r
    call_bytes o r e f = call_known o e ∙ ruled_refused refuse _ f

    pub call_parts : (o : GwrOptions) → options_of kernel kind bandwidth ≡ Ok o → NoneOf bytes → call ≡ fit_parts coords x y p o out summary
    call_parts o e f = call_known o e ∙ ruled_pass refuse _ f ∙ sym (parts_judged o (passed _ _ _ _ f))

    -- the call refuses exactly as the list says, and answers the fit of the numbers otherwise
    pub call_decides : Decides (call_tests coords x y p kernel kind bandwidth (length out) (length summary)) (λ (r : Refusal). call ≡ refuse r) (call ≡ given (named (options_of kernel kind bandwidth)))
    unfolding fit_bytes
    call_decides = decides (call_tests coords x y p kernel kind bandwidth (length out) (length summary)) refl
