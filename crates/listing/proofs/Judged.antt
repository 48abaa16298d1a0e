-- What is printed goes by one list of tests: a refusal's line where one holds, and else the text of the fit of the numbers.
use Rattle.std.specs.Prelude.{Result, IfOk}
use mathlib.Core.Path.{◌≡◌, refl, sym, ap, subst, ◌∙◌}
use mathlib.Core.Bool.{Bool, false}
use mathlib.Core.List.{List, ◌∷◌, ◌++◌}
use Prim.Native.Nat.{ℕ, zero, suc, ◌+◌, ◌*◌, ◌/◌, ◌≤◌}
use native.Mathlib.Nat.{mul-le-mul}
use native.Mathlib.Omega.{arith}
use borrow.Author.Tests.{le-ltb}
use lib.Dec.{ltb}
use lib.ListN.{length, take, drop, replicate, length-drop, length-replicate}
use lib.Seq.{length-take-le}
use lib.Ieee.{Float}
use Rattle.std.specs.Prelude.{Ok, Err}
use Rattle.real.specs.Reals.{zero64}
use Rattle.wire.specs.Wire.{reals}
use Rattle.wire.proofs.Decoding.{length_reals}
use Rattle.refusal.specs.declared.Refusal.{Refusal}
use Rattle.refusal.specs.declared.Refusal.TheVariants.{TooFewObservations, OutputTooShort, UnknownNumber}
use Rattle.refusal.proofs.Range.{numbered}
use Rattle.setup.specs.declared.GwrOptions.{GwrOptions}
use Rattle.setup.specs.Data.{Data, trusting}
use Rattle.setup.specs.Shape.{setup_of}
use Rattle.checks.specs.Judge.{Check, judge, ruled, NoneOf, Decides}
use Rattle.checks.proofs.Judge.{ruled_append, ruled_refused, ruled_pass, judge_append, judge_rest, none_append, decides}
use Rattle.input.specs.Checks.{value_tests, option_tests, fit_tests}
use Rattle.gwr.specs.declared.Fit.{Fit}
use Rattle.gwr.specs.Fit.{gwr_fit}
use Rattle.gwr.proofs.Bounds.{Made, fits}
use Rattle.request.specs.Options.{options_of, is_unknown}
use Rattle.calls.specs.Calls.{numbers_of, lent_too_short, number_tests, call_tests, AfterCall, refused_call, fitted_bytes, numbers_fit, fit_bytes}
use Rattle.request.specs.Lengths.{byte_tests, ByteLengths}
use Rattle.calls.proofs.Judged.{call_decides}
use Rattle.request.proofs.Lengths.{lengths_pass}
use Rattle.calls.proofs.Served.{call_passed}
use Rattle.header.specs.declared.Head.{Head}
use Rattle.header.specs.Headers.{head_of, header_tests, header_of}
use Rattle.listing.specs.Jobs.{refused_text, answer_text, call_of_parts, whole_text, job_text}
use Rattle.header.specs.Cuts.{places_end, predictors_end, responses_end, cut_tests}
use Rattle.listing.specs.Printed.{text_of, printed, printed_parts}
use Rattle.listing.specs.Numbers.{data_in, options_in, data_tests, print_tests, fit_in, text_of_fit}
use Rattle.listing.proofs.Texts.{refused_text_lem}
use Rattle.header.proofs.Heads.{PassedHeader, header_passed, parts_whole}
use Rattle.listing.proofs.Fronts.{load_front}
use Rattle.listing.proofs.Numbers.{answer_text_lem}

-- ---- lists of tests

-- what is given matters only where the check passes
ruled_under : {A : Type 0} (k : Check) (refuse : Refusal → A) (a b : A) → (k ≡ Ok tt → a ≡ b) → ruled k refuse a ≡ ruled k refuse b
unfolding ruled
ruled_under (Ok passed) refuse a b h = h refl
ruled_under (Err r) refuse a b h = refl

-- a test that does not hold, left out
without : (l m : List (Bool × Refusal)) (b : Bool) (r : Refusal) → b ≡ false → judge (l ++ ((b, r) ∷ m)) ≡ judge (l ++ m)
without l m b r e = judge_append l ((b, r) ∷ m) ∙ ap (ruled (judge l) Err) (judge_rest r m e) ∙ sym (judge_append l m)

-- ---- whole parts

reals_front : (s : List ℕ) (k m : ℕ) → 8 * m ≤ k → reals (take k s) m ≡ reals s m
unfolding reals
reals_front s k zero h = refl
reals_front s k (suc m) h = rw (reals_front s k m (omega arith), load_front s (8 * m) k (omega arith))

module _ (h : Head) (parts : List ℕ) (known : is_unknown (options_of h.kernel h.kind h.bandwidth) ≡ false) (some : 1 ≤ h.n) (few : h.n ≤ 512) (narrow : h.p ≤ 7) (whole : responses_end h.n h.p ≤ length parts) where
  abbrev n : ℕ
  n = h.n

  abbrev p : ℕ
  p = h.p

  abbrev o : GwrOptions
  o = options_in h

  -- the bytes of coordinates, predictors and responses
  abbrev A : List ℕ
  A = take (places_end n) parts

  abbrev B : List ℕ
  B = take (8 * (n * p)) (drop (places_end n) parts)

  abbrev D : List ℕ
  D = take (8 * n) (drop (predictors_end n p) parts)

  size : length A ≡ 16 * n
  size = length-take-le (16 * n) parts (omega arith)

  count : length A / 16 ≡ n
  count = omega (arith, size)

  lengths : ByteLengths (length A) (length B) (length D) p
  lengths =
      record {
        some = omega (arith, count, some);
        few = omega (arith, count, few);
        narrow = narrow;
        places = omega (arith, size);
        rows = length-take-le (8 * (n * p)) (drop (16 * n) parts) (omega (arith, length-drop (16 * n) parts)) ∙ ap (λ (k : ℕ). 8 * (k * p)) (sym count);
        responses = length-take-le (8 * n) (drop (predictors_end n p) parts) (omega (arith, length-drop (predictors_end n p) parts)) ∙ ap (λ (k : ℕ). 8 * k) (sym count);
      }

  -- the numbers that they are
  same : numbers_of A B D p ≡ data_in h parts
  same =
      ap (λ (k : ℕ). trusting (reals A (2 * k)) (reals B (k * p)) (reals D k)) count
      ∙ ap (λ (l : List Float). trusting l (reals B (n * p)) (reals D n)) (reals_front parts (16 * n) (2 * n) (omega arith))
      ∙ ap (λ (l : List Float). trusting (reals parts (2 * n)) l (reals D n)) (reals_front (drop (16 * n) parts) (8 * (n * p)) (n * p) (omega arith))
      ∙ ap (λ (l : List Float). trusting (reals parts (2 * n)) (reals (drop (16 * n) parts) (n * p)) l) (reals_front (drop (predictors_end n p) parts) (8 * n) n (omega arith))

  fit_same : numbers_fit A B D p o ≡ fit_in h parts
  fit_same = ap (λ (d : Data). gwr_fit d p o (replicate (length A / 16 * (p + 4)) zero64)) same ∙ ap (λ (k : ℕ). gwr_fit (data_in h parts) p o (replicate (k * (p + 4)) zero64)) count

  module _ (out summary : List ℕ) (room : 45056 ≤ length out) (space : 24 ≤ length summary) where
    enough : lent_too_short n p (length out) (length summary) ≡ false
    enough =
        let wide : p + 4 ≤ 11 = omega arith in
        rw (le-ltb (length out) (8 * (n * (p + 4))) (omega (arith, mul-le-mul few wide, room)), le-ltb (length summary) 24 space)

    -- 7 on
    numbers_judged : judge (number_tests A B D p o (length out) (length summary)) ≡ judge (data_tests h parts)
    unfolding number_tests data_tests
    numbers_judged =
        let first : ℕ → Bool × Refusal = λ k. (ltb k (p + 1), TooFewObservations) in
        let d = data_in h parts in
        ap (λ (k : ℕ). judge (first k ∷ (value_tests (numbers_of A B D p) ++ ((lent_too_short k p (length out) (length summary), OutputTooShort) ∷ option_tests (setup_of (numbers_of A B D p) p o) (numbers_of A B D p))))) count
        ∙ ap (λ (e : Data). judge (first n ∷ (value_tests e ++ ((lent_too_short n p (length out) (length summary), OutputTooShort) ∷ option_tests (setup_of e p o) e)))) same
        ∙ without (first n ∷ value_tests d) (option_tests (setup_of d p o) d) (lent_too_short n p (length out) (length summary)) OutputTooShort enough

    -- what 18 and 1 to 6 let pass goes by the rest
    call_judged : judge (call_tests A B D p h.kernel h.kind h.bandwidth (length out) (length summary)) ≡ judge (data_tests h parts)
    unfolding call_tests
    call_judged =
        let bytes = byte_tests (length A) (length B) (length D) p in
        let rest = number_tests A B D p o (length out) (length summary) in
        judge_rest UnknownNumber (bytes ++ rest) known
        ∙ judge_append bytes rest
        ∙ ruled_pass Err (judge rest) (lengths_pass (length A) (length B) (length D) p lengths)
        ∙ numbers_judged

    -- of numbers that no test refuses the fit's own list refuses nothing
    pub numbers_fit_lem : NoneOf (data_tests h parts) → NoneOf (fit_tests (data_in h parts) p o (length (replicate (n * (p + 4)) zero64)))
    numbers_fit_lem e =
        let z = (call_passed A B D p h.kernel h.kind h.bandwidth out summary (call_judged ∙ e)).fitted in
        ap (λ (d : Data). judge (fit_tests d p o (length (replicate (n * (p + 4)) zero64)))) (sym same)
        ∙ ap (λ (k : ℕ). judge (fit_tests (numbers_of A B D p) p o (length (replicate (k * (p + 4)) zero64)))) (sym count)
        ∙ z

    -- the text of whole parts
    pub whole_judged : whole_text h parts out summary ≡ ruled (judge (data_tests h parts)) refused_text (text_of_fit h parts)
    unfolding whole_text call_of_parts
    whole_judged = go (judge (data_tests h parts)) refl
      where
        call : Decides (call_tests A B D p h.kernel h.kind h.bandwidth (length out) (length summary))
            (λ (r : Refusal). fit_bytes A B D p h.kernel h.kind h.bandwidth out summary ≡ refused_call r out summary)
            (fit_bytes A B D p h.kernel h.kind h.bandwidth out summary ≡ fitted_bytes p (numbers_fit A B D p o) out summary)
        call = call_decides A B D p out summary h.kernel h.kind h.bandwidth

        fit_text_lem : answer_text (fitted_bytes p (fit_in h parts) out summary) n (p + 4) ≡ text_of_fit h parts
        fit_text_lem =
            let rows = replicate (n * (p + 4)) zero64 in
            let g = fits (data_in h parts) p o rows in
            let half : length (reals parts (2 * n)) / 2 ≡ n = omega (arith, length_reals parts (2 * n)) in
            answer_text_lem n (p + 4) (fit_in h parts).1 out summary (g.long ∙ length-replicate (n * (p + 4)) zero64) (fit_in h parts).0 (length rows)
            (subst (λ (k : ℕ). IfOk (fit_in h parts).0 (λ f. Made k (length rows) f)) half g.sound)

        go : (k : Check) → judge (data_tests h parts) ≡ k → answer_text (fit_bytes A B D p h.kernel h.kind h.bandwidth out summary) n (p + 4) ≡ ruled (judge (data_tests h parts)) refused_text (text_of_fit h parts)
        go (Err r) e =
            ap (λ (a : AfterCall). answer_text a n (p + 4)) (call.refused r (call_judged ∙ e))
            ∙ sym (refused_text_lem (refused_call r out summary) n (p + 4) (numbered r).some)
            ∙ sym (ruled_refused refused_text (text_of_fit h parts) e)
        go (Ok passed) e =
            ap (λ (a : AfterCall). answer_text a n (p + 4)) (call.served (call_judged ∙ e) ∙ ap (λ (g : Result Fit Refusal × List Float). fitted_bytes p g out summary) fit_same)
            ∙ fit_text_lem
            ∙ sym (ruled_pass refused_text (text_of_fit h parts) e)

-- ---- the whole input

text_ruled : (k : Check) (h : Head) (parts : List ℕ) → text_of (ruled k Err (Ok h)) parts ≡ ruled k refused_text (job_text h parts)
unfolding ruled
text_ruled (Ok passed) h parts = refl
text_ruled (Err r) h parts = refl

module _ (input : List ℕ) where
  abbrev head : Head
  head = head_of input

  abbrev behind : List ℕ
  behind = drop 40 input

  abbrev text : List ℕ
  text = text_of_fit head behind

  abbrev cuts : List (Bool × Refusal)
  cuts = cut_tests (length behind) head.n head.p

  -- what the code's parts give is what is owed
  pub parts_printed : printed_parts input ≡ printed input
  unfolding printed_parts printed header_of job_text print_tests
  parts_printed =
      let W = whole_text head behind (replicate 45056 0) (replicate 24 0) in
      let rest = ruled (judge (data_tests head behind)) refused_text text in
      text_ruled (judge (header_tests input)) head behind
      ∙ ruled_under (judge (header_tests input)) refused_text (ruled (judge cuts) refused_text W) (ruled (judge cuts) refused_text rest)
      (λ e. ruled_under (judge cuts) refused_text W rest
      (λ f. let z = header_passed input e in
      whole_judged head behind z.known z.some z.few z.narrow (parts_whole (length behind) head.n head.p f) (replicate 45056 0) (replicate 24 0) (omega (arith, length-replicate {A = ℕ} 45056 0)) (omega (arith, length-replicate {A = ℕ} 24 0))))
      ∙ ap (ruled (judge (header_tests input)) refused_text) (sym (ruled_append refused_text text cuts (data_tests head behind)))
      ∙ sym (ruled_append refused_text text (header_tests input) (cuts ++ data_tests head behind))

  -- the program refuses exactly as the list says, and prints the fit of the numbers otherwise
  pub printed_decides : Decides (print_tests input) (λ (r : Refusal). printed input ≡ refused_text r) (printed input ≡ text)
  unfolding printed
  printed_decides = decides (print_tests input) refl

  -- an input that no test refuses: its header, its parts, and that the fit of its numbers is not refused
  pub record PrintPassed : Type 0 where
    pub header : PassedHeader input
    pub whole : responses_end head.n head.p ≤ length behind
    pub fitted : NoneOf (fit_tests (data_in head behind) head.p (options_in head) (length (replicate (head.n * (head.p + 4)) zero64)))

  pub print_passed : NoneOf (print_tests input) → PrintPassed
  unfolding print_tests
  print_passed e =
      let a = none_append (header_tests input) (cuts ++ data_tests head behind) e in
      let b = none_append cuts (data_tests head behind) a.1 in
      let z = header_passed input a.0 in
      let w = parts_whole (length behind) head.n head.p b.0 in
      record {
        header = z;
        whole = w;
        fitted = numbers_fit_lem head behind z.known z.some z.few z.narrow w (replicate 45056 0) (replicate 24 0) (omega (arith, length-replicate {A = ℕ} 45056 0)) (omega (arith, length-replicate {A = ℕ} 24 0)) b.1;
      }
