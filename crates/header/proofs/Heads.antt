-- Headers and cut parts, case by case.
use mathlib.Core.Path.{◌≡◌, refl, sym, ap, subst, ◌∙◌}
use mathlib.Core.Bool.{false}
use mathlib.Core.List.{List}
use Prim.Native.Nat.{ℕ, ◌≤◌, ◌<◌}
use native.Mathlib.Omega.{arith}
use borrow.Author.Tests.{eq-eqb, ne_eqb, eqb-false, ltb-false, lt-ltb, le-ltb}
use lib.ListN.{length}
use Rattle.std.specs.Prelude.{Result, Ok, Err}
use Rattle.wire.specs.Wire.{load_of}
use Rattle.refusal.specs.declared.Refusal.{Refusal}
use Rattle.refusal.specs.declared.Refusal.TheVariants.{NoCoordinates, TooManyObservations, TooManyPredictors}
use Rattle.setup.specs.declared.GwrOptions.{GwrOptions}
use Rattle.checks.specs.Judge.{Check, judge, ruled, FirstOf, NoneOf}
use Rattle.checks.proofs.Judge.{ruled_refused, ruled_pass, none_head}
use Rattle.request.specs.Options.{options_of, is_unknown}
use Rattle.request.proofs.Options.{options_refused}
use Rattle.header.specs.declared.Head.{Head}
use Rattle.header.specs.Headers.{Header, asked, head_of, size_tests, header_tests, header_of, sized_header}
use Rattle.header.specs.Cuts.{responses_end, cut_tests}

-- the sizes as the code loaded them
module _ (s : List ℕ) (n p : ℕ) (en : n ≡ load_of s 0) (ep : p ≡ load_of s 8) where
  sizes_are : ruled (judge (size_tests n p)) Err (Ok (head_of s)) ≡ sized_header s
  unfolding sized_header
  sizes_are =
      ap (λ (k : ℕ). ruled (judge (size_tests k p)) Err (Ok (head_of s))) en ∙ ap (λ (k : ℕ). ruled (judge (size_tests (load_of s 0) k)) Err (Ok (head_of s))) ep

  pub sizes_refused : (r : Refusal) → FirstOf (size_tests n p) r → Err r ≡ sized_header s
  sizes_refused r f = sym (ruled_refused Err (Ok (head_of s)) f) ∙ sizes_are

  pub sizes_whole : (kernel kind bandwidth : ℕ) → NoneOf (size_tests n p) → kernel ≡ load_of s 16 → kind ≡ load_of s 24 → bandwidth ≡ load_of s 32
      → ◌≡◌ {A = Header} (Ok (record { n = n; p = p; kernel = kernel; kind = kind; bandwidth = bandwidth })) (sized_header s)
  sizes_whole kernel kind bandwidth f ek ed eb =
      let e : ◌≡◌ {A = Header} (Ok (record { n = n; p = p; kernel = kernel; kind = kind; bandwidth = bandwidth })) (Ok (head_of s)) = cc in
      e ∙ sym (ruled_pass Err (Ok (head_of s)) f) ∙ sizes_are

-- a size that is refused, and a header whose sizes are not
module _ (s : List ℕ) where
  pub sizes_none : load_of s 0 ≡ 0 → Err NoCoordinates ≡ sized_header s
  unfolding judge size_tests
  sizes_none h = sizes_refused s _ _ refl refl NoCoordinates (rw (eq-eqb (load_of s 0) 0 h))

  pub sizes_many : (load_of s 0 ≡ 0 → ⊥) → 512 < load_of s 0 → Err TooManyObservations ≡ sized_header s
  unfolding judge size_tests
  sizes_many h k = sizes_refused s _ _ refl refl TooManyObservations (rw (ne_eqb (load_of s 0) 0 h, lt-ltb 512 (load_of s 0) k))

  pub sizes_wide : (load_of s 0 ≡ 0 → ⊥) → load_of s 0 ≤ 512 → 7 < load_of s 8 → Err TooManyPredictors ≡ sized_header s
  unfolding judge size_tests
  sizes_wide h k l =
      sizes_refused s _ _ refl refl TooManyPredictors (rw (ne_eqb (load_of s 0) 0 h, le-ltb 512 (load_of s 0) k, lt-ltb 7 (load_of s 8) l))

  pub sizes_served : (load_of s 0 ≡ 0 → ⊥) → load_of s 0 ≤ 512 → load_of s 8 ≤ 7 → Ok (head_of s) ≡ sized_header s
  unfolding judge size_tests
  sizes_served h k l =
      sizes_whole s _ _ refl refl _ _ _ (rw (ne_eqb (load_of s 0) 0 h, le-ltb 512 (load_of s 0) k, le-ltb 7 (load_of s 8) l)) refl refl refl

pub ruleset sizes = (sizes_none, sizes_many, sizes_wide, sizes_served)

pub header_short : (s : List ℕ) → length s < 40 → Err NoCoordinates ≡ header_of s
unfolding header_of header_tests judge ruled
header_short s h = rw (lt-ltb (length s) 40 h)

module _ (s : List ℕ) (a b d : ℕ) (long : 40 ≤ length s) (ea : a ≡ load_of s 16) (eb : b ≡ load_of s 24) (ed : d ≡ load_of s 32) where
  loaded : (q : Result GwrOptions Refusal) → options_of a b d ≡ q → options_of (load_of s 16) (load_of s 24) (load_of s 32) ≡ q
  loaded q e = rw (← ea, ← eb, ← ed) e

  pub header_unknown : {r : Refusal} → options_of a b d ≡ Err r → Err r ≡ header_of s
  unfolding header_of header_tests judge ruled
  header_unknown e = rw (le-ltb (length s) 40 long, loaded (Err _) e) (ap Err (options_refused a b d e))

  pub header_known : (o : GwrOptions) (r : Header) → options_of a b d ≡ Ok o → r ≡ sized_header s → r ≡ header_of s
  unfolding header_of header_tests sized_header judge
  header_known o r e h = rw (le-ltb (length s) 40 long, loaded (Ok o) e) h

-- a header that no test refuses
pub record PassedHeader (s : List ℕ) : Type 0 where
  pub long : 40 ≤ length s
  pub known : is_unknown (options_of (load_of s 16) (load_of s 24) (load_of s 32)) ≡ false
  pub some : 1 ≤ load_of s 0
  pub few : load_of s 0 ≤ 512
  pub narrow : load_of s 8 ≤ 7

pub header_passed : (s : List ℕ) → NoneOf (header_tests s) → PassedHeader s
unfolding header_tests size_tests
header_passed s h =
    let t1 = none_head _ _ _ h in
    let t2 = none_head _ _ _ t1.1 in
    let t3 = none_head _ _ _ t2.1 in
    let t4 = none_head _ _ _ t3.1 in
    let t5 = none_head _ _ _ t4.1 in
    let none : load_of s 0 ≡ 0 → ⊥ = eqb-false _ _ t3.0 in
    record { long = ltb-false _ _ t1.0; known = t2.0; some = omega arith; few = ltb-false _ _ t4.0; narrow = ltb-false _ _ t5.0 }

whole_one : {h k : Head} → ◌≡◌ {A = Header} (Ok h) (Ok k) → h ≡ k
whole_one e = cc

refused_whole : {A : Type 0} {r : Refusal} {h : Head} → ◌≡◌ {A = Header} (Err r) (Ok h) → A
refused_whole e = let z : ◌≡◌ {A = ℕ} 0 1 = cc in absurd (omega arith)

pub header_whole : (s : List ℕ) (h : Head) → header_of s ≡ Ok h → PassedHeader s × (head_of s ≡ h)
unfolding header_of ruled
header_whole s h e = go (judge (header_tests s)) refl e
  where
    go : (k : Check) → judge (header_tests s) ≡ k → ruled k Err (Ok (head_of s)) ≡ Ok h → PassedHeader s × (head_of s ≡ h)
    go (Ok passed) f i = (header_passed s f, whole_one i)
    go (Err r) f i = refused_whole i

pub head_sized : (s : List ℕ) (h : Head) → header_of s ≡ Ok h → (h.n ≤ 512) × (h.p ≤ 7)
head_sized s h e = let w = header_whole s h e in subst (λ (k : Head). (k.n ≤ 512) × (k.p ≤ 7)) w.1 (w.0.few, w.0.narrow)

pub head_long : (s : List ℕ) (h : Head) → header_of s ≡ Ok h → 40 ≤ length s
head_long s h e = (header_whole s h e).0.long

-- what a header asks for
pub asked_is : (s : List ℕ) (h : Header) → header_of s ≡ h → asked h ≡ asked (header_of s)
asked_is s h e = sym (ap (λ (z : Header). asked z) e)

-- parts that are not cut short
pub parts_whole : (size n p : ℕ) → NoneOf (cut_tests size n p) → responses_end n p ≤ size
unfolding cut_tests
parts_whole size n p h =
    let t1 = none_head _ _ _ h in
    let t2 = none_head _ _ _ t1.1 in
    ltb-false _ _ (none_head _ _ _ t2.1).0
