-- Lists of which every number meets a test: each of them does; and the walk over them, in which what is passed and what is left decide together.
use Rattle.std.proofs.Common.{◌≡◌, ℕ, zero, suc, ◌+◌, ◌-◌, ◌*◌, ◌<◌, ◌≤◌, Bool, true, false, ◌&&◌, T, List, [], ◌∷◌, length, get_or, take, drop, sym, refl, ap, ◌∙◌, subst, inl, inr, le_of_suc-le-suc, not-suc-le-zero, add-one, arith, drop_of_length-le, length-take-le, length-drop, drop-cons, get_or-take}
use Rattle.std.proofs.lemmas.List.{take_all}
use mathlib.Core.Path.{subst⁻¹}
use mathlib.Core.Bool.{and_assoc, and-true}
use lib.Ieee.{Float, nan, binary64, mul, eq}
use lib.Ieee.Fits.{and_i, and_l, and_r}
use lib.Ieee.Scale.{finite}
use Rattle.real.specs.Finite.{all_of}
use Rattle.real.specs.Reals.{zero64}
use Rattle.real.proofs.SignedOrder.{here_or_on}
use Rattle.real.proofs.Values.{Tells, zero_tells, times_tells, told}

pub at_each : (f : Float → Bool) (l : List Float) (j : ℕ) → T (all_of f l) → j < length l → T (f (get_or l j nan))
unfolding all_of
at_each f [] j h k = absurd (not-suc-le-zero k)
at_each f (v ∷ vs) zero h k = and_l (f v) (all_of f vs) h
at_each f (v ∷ vs) (suc j) h k = at_each f vs j (and_r (f v) (all_of f vs) h) (le_of_suc-le-suc k)

-- and where each does, so does the list
of_each : (f : Float → Bool) (l : List Float) → ((j : ℕ) → j < length l → T (f (get_or l j nan))) → T (all_of f l)
unfolding all_of
of_each f [] h = tt
of_each f (v ∷ vs) h = and_i (f v) (all_of f vs) (h 0 (omega arith)) (of_each f vs (λ j k. h (suc j) (omega (arith, k))))

-- a front and what is left of it
all_parts : (f : Float → Bool) (k : ℕ) (l : List Float) → all_of f l ≡ (all_of f (take k l) && all_of f (drop k l))
unfolding all_of
all_parts f zero l = refl
all_parts f (suc k) [] = refl
all_parts f (suc k) (v ∷ vs) = rw (all_parts f k vs) (sym (and_assoc (f v) (all_of f (take k vs)) (all_of f (drop k vs))))

-- as two slices
pub all_of_parts : (f : Float → Bool) (k : ℕ) (l : List Float) → (all_of f (take k l) && all_of f (take (length l - k) (drop k l))) ≡ all_of f l
all_of_parts f k l = sym (all_parts f k l ∙ ap (λ (m : List Float). all_of f (take k l) && all_of f m) (sym (take_all _ (drop k l) (omega (arith, length-drop k l)))))

-- ---- the walk

-- the first i numbers of l meet the test, if good
pub record Passed (f : Float → Bool) (l : List Float) (i : ℕ) (good : Bool) : Type 0 where
  pub within : i ≤ length l
  pub is : all_of f l ≡ (good && all_of f (drop i l))

module _ {f : Float → Bool} {l : List Float} where
  pub none : Passed f l 0 true
  none = record { within = omega arith; is = refl }

  pub more : {i : ℕ} {good next : Bool} → Passed f l i good → i < length l → next ≡ (good && f (get_or l i nan)) → Passed f l (i + 1) next
  unfolding all_of
  more {i} {good} r h e =
      record {
        within = omega arith;
        is = r.is ∙ rw (add-one, drop-cons l i nan, e) (sym (and_assoc good (f (get_or l i nan)) _));
      }

  pub done : {i : ℕ} {good : Bool} → Passed f l i good → length l ≤ i → good ≡ all_of f l
  unfolding all_of
  done {i} {good} r h = sym (r.is ∙ rw (drop_of_length-le l h) (and-true good))

-- z tells whether the first i numbers are finite
pub record Multiplied (l : List Float) (i : ℕ) (z : Float) : Type 0 where
  good : Bool
  pub tells : Tells z good
  pub passed : Passed finite l i good

module _ {l : List Float} where
  pub times_none : Multiplied l 0 zero64
  times_none = record { good = true; tells = zero_tells; passed = none }

  pub times_more : {i : ℕ} {z : Float} → Multiplied l i z → i < length l → Multiplied l (i + 1) (mul binary64 z (get_or l i nan))
  times_more {i} {z} r h =
      record { good = r.good && finite (get_or l i nan); tells = times_tells (get_or l i nan) r.tells; passed = more r.passed h refl }

  pub times_done : {i : ℕ} {z : Float} → Multiplied l i z → length l ≤ i → eq z zero64 ≡ all_of finite l
  times_done r h = told r.tells ∙ done r.passed h

-- ---- four at a time, h apart

same : (a b : Bool) → (T a → T b) → (T b → T a) → a ≡ b
same true true h k = refl
same true false h k = absurd (h tt)
same false true h k = absurd (k tt)
same false false h k = refl

module _ (f : Float → Bool) (l : List Float) (h : ℕ) where
  -- the test of the i-th four
  abbrev pub four : ℕ → Bool
  four i = f (get_or l i nan) && f (get_or l (h + i) nan) && f (get_or l (2 * h + i) nan) && f (get_or l (3 * h + i) nan)

  -- the first i fours meet the test, if good; and they do if all do
  pub record Fours (i : ℕ) (good : Bool) : Type 0 where
    pub within : i ≤ h
    pub known : T good → (j : ℕ) → j < i → T (four j)
    pub owed : T (all_of f (take (4 * h) l)) → T good

  pub no_fours : Fours 0 true
  no_fours = record { within = omega arith; known = λ t j k. absurd (not-suc-le-zero k); owed = λ t. tt }

  module _ (enough : 4 * h ≤ length l) where
    below : {j : ℕ} → j < length (take (4 * h) l) → j < 4 * h
    below k = omega (arith, length-take-le (4 * h) l enough)

    pub more_fours : (i : ℕ) (good next : Bool) → Fours i good → i < h → next ≡ (good && four i) → Fours (i + 1) next
    more_fours i good next r k e = record { within = omega arith; known = λ t. each (subst T e t); owed = λ t. subst⁻¹ T e (and_i good (four i) (r.owed t) (here t)) }
      where
        same_number : (j : ℕ) → i ≤ j → j < i + 1 → i ≡ j
        same_number j p q = omega arith

        each : T (good && four i) → (j : ℕ) → j < i + 1 → T (four j)
        each t j q = elim (here_or_on j i) [ inl p ↦ r.known (and_l good (four i) t) j p | inr p ↦ subst (λ (z : ℕ). T (four z)) (same_number j p q) (and_r good (four i) t) ]

        at : (j : ℕ) → T (all_of f (take (4 * h) l)) → j < 4 * h → T (f (get_or l j nan))
        at j t q = subst (λ (v : Float). T (f v)) (get_or-take (4 * h) l j nan q) (at_each f (take (4 * h) l) j t (omega (arith, length-take-le (4 * h) l enough, q)))

        here : T (all_of f (take (4 * h) l)) → T (four i)
        here t =
            let a = f (get_or l i nan) in
            let b = f (get_or l (h + i) nan) in
            let c = f (get_or l (2 * h + i) nan) in
            let d = f (get_or l (3 * h + i) nan) in
            and_i (a && b && c) d (and_i (a && b) c (and_i a b (at i t (omega arith)) (at (h + i) t (omega arith))) (at (2 * h + i) t (omega arith))) (at (3 * h + i) t (omega arith))

    pub all_fours : (i : ℕ) (good : Bool) → Fours i good → h ≤ i → good ≡ all_of f (take (4 * h) l)
    all_fours i good r k = same good (all_of f (take (4 * h) l)) (λ t. of_each f (take (4 * h) l) (λ j q. subst⁻¹ (λ (v : Float). T (f v)) (get_or-take (4 * h) l j nan (below q)) (at t j (below q)))) r.owed
      where
        all_four : (a b c d : Bool) → T (a && b && c && d) → T a × T b × T c × T d
        all_four a b c d t = let u = and_l (a && b && c) d t in let v = and_l (a && b) c u in (and_l a b v, and_r a b v, and_r (a && b) c u, and_r (a && b && c) d t)

        known : T good → (j : ℕ) → j < h → T (f (get_or l j nan)) × T (f (get_or l (h + j) nan)) × T (f (get_or l (2 * h + j) nan)) × T (f (get_or l (3 * h + j) nan))
        known t j q = all_four (f (get_or l j nan)) (f (get_or l (h + j) nan)) (f (get_or l (2 * h + j) nan)) (f (get_or l (3 * h + j) nan)) (r.known t j (omega arith))

        back : (a j : ℕ) → a ≤ j → T (f (get_or l (a + (j - a)) nan)) → T (f (get_or l j nan))
        back a j p t = let e : a + (j - a) ≡ j = omega arith in subst (λ (z : ℕ). T (f (get_or l z nan))) e t

        at : T good → (j : ℕ) → j < 4 * h → T (f (get_or l j nan))
        at t j q =
            elim (here_or_on j h) [
              | inl p ↦ (known t j p).0
              | inr p ↦
                  elim (here_or_on j (2 * h)) [
                    | inl p2 ↦ back h j p (known t (j - h) (omega arith)).1
                    | inr p2 ↦
                        elim (here_or_on j (3 * h)) [
                          | inl p3 ↦ back (2 * h) j p2 (known t (j - 2 * h) (omega arith)).2
                          | inr p3 ↦ back (3 * h) j p3 (known t (j - 3 * h) (omega arith)).3
                        ]
                  ]
            ]
