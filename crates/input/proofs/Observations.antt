-- Whether observations are good, told by one comparison for the numbers of each and one more for its trust; the walk over them; and what it says of the tests of the values.
use mathlib.Core.Path.{◌≡◌, refl, sym, ap, ◌∙◌, subst}
use mathlib.Core.Bool.{Bool, true, false, not, ◌&&◌, and_assoc, true≢false}
use mathlib.Core.List.{List, [], ◌∷◌}
use Prim.Native.Nat.{ℕ, zero, suc, ◌+◌, ◌*◌, ◌/◌, ◌≤◌, ◌<◌}
use native.Mathlib.Omega.{arith}
use lib.ListN.{length, drop, get_or}
use Rattle.std.specs.List.{zip}
use Rattle.std.specs.Simd.{first_chunks}
use Rattle.std.proofs.lemmas.List.{get_or-drop, get_or_default}
use Rattle.std.proofs.lemmas.Slice.Zip.{length-zip, get_or-zip}
use lib.Seq.{get_or-take}
use lib.Ieee.{Float, nan, binary64, sub, mul, le}
use lib.Ieee.Scale.{finite}
use Rattle.real.specs.Finite.{all_finite, in_unit, all_in_unit}
use Rattle.real.specs.Reals.{zero64, one64}
use Rattle.refusal.specs.declared.Refusal.TheVariants.{ResponseNotFinite, CoordinateNotFinite, PredictorNotFinite, TrustOutOfRange}
use Rattle.setup.specs.Data.{Data}
use Rattle.checks.specs.Judge.{judge, NoneOf}
use Rattle.input.specs.Checks.{value_tests, trusts_fit}
use Rattle.real.proofs.Values.{less_tells, times_tells, at_most_told}
use Rattle.real.proofs.Finite.{Passed, none, more, done}

-- an observation's zero is at most its trust where its numbers are finite and that is not below 0
pub good_is : (v east north trust : Float) → (le (mul binary64 (mul binary64 (sub binary64 v v) east) north) trust && le trust one64) ≡ (finite v && finite east && finite north && in_unit trust)
good_is v east north trust =
    let seen = finite v && finite east && finite north in
    ap (λ (b : Bool). b && le trust one64) (at_most_told trust (times_tells north (times_tells east (less_tells v))))
    ∙ and_assoc seen (le zero64 trust) (le trust one64)

-- ---- the walk

-- a number of the j-th place
coordinate : (c : List Float) (n j k m : ℕ) → j < n → k < 2 → m ≡ 2 * j + k → get_or (get_or (first_chunks 2 n c) j []) k nan ≡ get_or c m nan
coordinate c zero j k m h g e = absurd (omega arith)
coordinate c (suc n) zero k m h g e = let same : k ≡ m = omega arith in get_or-take 2 c k nan g ∙ ap (λ (i : ℕ). get_or c i nan) same
coordinate c (suc n) (suc j) k m h g e =
    let on : 2 + (2 * j + k) ≡ m = omega arith in
    coordinate (drop 2 c) n j k (2 * j + k) (omega arith) g refl ∙ get_or-drop 2 c (2 * j + k) nan ∙ ap (λ (i : ℕ). get_or c i nan) on

-- the first i observations of places c, responses y and trusts t are good, if good
pub record Walked (c y t : List Float) (i : ℕ) (good : Bool) : Type 0 where
  answered : Bool
  placed : Bool
  trusted : Bool
  is : good ≡ (answered && placed && trusted)
  responses : Passed finite y i answered
  places : Passed finite c (2 * i) placed
  trusts : Passed in_unit t i trusted

swapped : (a b v w : Bool) → (a && b && (v && w)) ≡ (a && v && (b && w))
swapped false b v w = refl
swapped true false true w = refl
swapped true false false w = refl
swapped true true v w = refl

sorted : (a b g v e n t : Bool) → (a && b && g && (v && e && n && t)) ≡ (a && v && (b && e && n) && (g && t))
sorted a b g v e n t =
    swapped (a && b) g (v && e && n) t
    ∙ ap (λ (z : Bool). z && (g && t)) (ap (λ (z : Bool). a && b && z) (and_assoc v e n) ∙ swapped a b v (e && n) ∙ ap (λ (z : Bool). a && v && z) (sym (and_assoc b e n)))

module _ {c y t : List Float} where
  pub walked_none : Walked c y t 0 true
  walked_none = record { answered = true; placed = true; trusted = true; is = refl; responses = none; places = none; trusts = none }

  pub walked_more : {i : ℕ} {good next : Bool} → Walked c y t i good → length c ≡ 2 * length y → length t ≡ length y → i < length y → next ≡ (good && (finite (get_or y i nan) && finite (get_or c (2 * i) nan) && finite (get_or c (2 * i + 1) nan) && in_unit (get_or t i nan))) → Walked c y t (i + 1) next
  walked_more {i} r places trusts h e =
      let v = finite (get_or y i nan) in
      let east = finite (get_or c (2 * i) nan) in
      let north = finite (get_or c (2 * i + 1) nan) in
      let own = in_unit (get_or t i nan) in
      let two : 2 * i + 1 + 1 ≡ 2 * (i + 1) = omega arith in
      record {
        answered = r.answered && v;
        placed = r.placed && east && north;
        trusted = r.trusted && own;
        is = e ∙ ap (λ (b : Bool). b && (v && east && north && own)) r.is ∙ sorted r.answered r.placed r.trusted v east north own;
        responses = more r.responses h refl;
        places = subst (λ (k : ℕ). Passed finite c k (r.placed && east && north)) two (more (more r.places (omega arith) refl) (omega arith) refl);
        trusts = more r.trusts (omega arith) refl;
      }

  -- the next of places two by two, responses and trusts
  pub walked_on :
      {p : List (List Float)} {i : ℕ} {good next : Bool} {x : (List Float × Float) × Float} → Walked c y t i good
      → length c ≡ 2 * length y → length t ≡ length y → p ≡ first_chunks 2 (length c / 2) c → length p ≡ length c / 2
      → (i < length (zip (zip p y) t)) × (x ≡ get_or (zip (zip p y) t) i x)
      → next ≡ (good && (finite x.0.1 && finite (get_or x.0.0 0 nan) && finite (get_or x.0.0 1 nan) && in_unit x.1)) → Walked c y t (i + 1) next
  walked_on {p} {i} {good} {next} {x} r places trusts front len h e =
      let few : i < length y = omega (arith, h.0, length-zip (zip p y) t, length-zip p y) in
      let both : x ≡ ((get_or p i x.0.0, get_or y i x.0.1), get_or t i x.1) =
      h.1 ∙ get_or-zip (zip p y) t i x (omega (arith, length-zip p y)) (omega arith)
      ∙ ap (λ (z : List Float × Float). (z, get_or t i x.1)) (get_or-zip p y i x.0 (omega arith) few) in
      let place : x.0.0 ≡ get_or (first_chunks 2 (length c / 2) c) i [] =
      ap (λ (z : (List Float × Float) × Float). z.0.0) both ∙ get_or_default p i x.0.0 [] (omega arith) ∙ ap (λ (l : List (List Float)). get_or l i []) front in
      let east : get_or x.0.0 0 nan ≡ get_or c (2 * i) nan = ap (λ (l : List Float). get_or l 0 nan) place ∙ coordinate c (length c / 2) i 0 (2 * i) (omega arith) (omega arith) (omega arith) in
      let north : get_or x.0.0 1 nan ≡ get_or c (2 * i + 1) nan = ap (λ (l : List Float). get_or l 1 nan) place ∙ coordinate c (length c / 2) i 1 (2 * i + 1) (omega arith) (omega arith) refl in
      let answer : x.0.1 ≡ get_or y i nan = ap (λ (z : (List Float × Float) × Float). z.0.1) both ∙ get_or_default y i x.0.1 nan few in
      let trust : x.1 ≡ get_or t i nan = ap (λ (z : (List Float × Float) × Float). z.1) both ∙ get_or_default t i x.1 nan (omega arith) in
      walked_more r places trusts few (e ∙ rw (east, north, answer, trust))

  pub walked_all : {i : ℕ} {good : Bool} → Walked c y t i good → length c ≡ 2 * length y → length t ≡ length y → length y ≤ i → good ≡ (all_finite y && all_finite c && all_in_unit t)
  walked_all r places trusts h = r.is ∙ rw (done r.responses h, done r.places (omega arith), done r.trusts (omega arith)) refl

-- ---- where all is good no test of the values holds
pub values_pass : (d : Data) → (all_finite d.responses && all_finite d.coords && trusts_fit d.trusts && all_finite d.predictors) ≡ true → NoneOf (value_tests d)
unfolding value_tests judge
values_pass d = go (all_finite d.responses) (all_finite d.coords) (trusts_fit d.trusts) (all_finite d.predictors)
  where
    go : (a b e v : Bool) → (a && b && e && v) ≡ true → NoneOf ((not a, ResponseNotFinite) ∷ (not b, CoordinateNotFinite) ∷ (not v, PredictorNotFinite) ∷ (not e, TrustOutOfRange) ∷ [])
    go true true true true h = refl
    go true true true false h = absurd (true≢false (sym h))
    go true true false v h = absurd (true≢false (sym h))
    go true false e v h = absurd (true≢false (sym h))
    go false b e v h = absurd (true≢false (sym h))
