-- Lists of tests: one after the other, entry by entry, and what they decide.
use mathlib.Core.Path.{◌≡◌, refl, sym, ap, ◌∙◌}
use mathlib.Core.Bool.{Bool, true, false}
use mathlib.Core.List.{List, [], ◌∷◌, ◌++◌}
use mathlib.Core.Logic.{◌⊎◌, inl, inr}
use Prim.Native.Nat.{ℕ}
use native.Mathlib.Omega.{arith}
use Rattle.refusal.specs.declared.Refusal.{Refusal}
use Rattle.std.specs.Prelude.{Ok, Err}
use Rattle.checks.specs.Judge.{Check, judge, ruled, FirstOf, NoneOf, Decides}

-- ---- what a check leads to

module _ {A : Type 0} (refuse : Refusal → A) (given : A) {k : Check} where
  pub ruled_refused : {r : Refusal} → k ≡ Err r → ruled k refuse given ≡ refuse r
  unfolding ruled
  ruled_refused e = ap (λ (c : Check). ruled c refuse given) e

  pub ruled_pass : k ≡ Ok tt → ruled k refuse given ≡ given
  unfolding ruled
  ruled_pass e = ap (λ (c : Check). ruled c refuse given) e

-- ---- one list after the other

module _ {A : Type 0} (refuse : Refusal → A) (given : A) where
  pub ruled_append : (l m : List (Bool × Refusal)) → ruled (judge (l ++ m)) refuse given ≡ ruled (judge l) refuse (ruled (judge m) refuse given)
  unfolding judge ruled
  ruled_append [] m = refl
  ruled_append (t ∷ l) m = go t.0 refl (ruled_append l m)
    where
      go : (b : Bool) → t.0 ≡ b → ruled (judge (l ++ m)) refuse given ≡ ruled (judge l) refuse (ruled (judge m) refuse given) →
          ruled (judge ((t ∷ l) ++ m)) refuse given ≡ ruled (judge (t ∷ l)) refuse (ruled (judge m) refuse given)
      go true e ih = rw e
      go false e ih = rw e ih

ruled_itself : (k : Check) → ruled k Err (Ok tt) ≡ k
unfolding ruled
ruled_itself (Ok u) = refl
ruled_itself (Err r) = refl

-- the first list, then the second
pub judge_append : (l m : List (Bool × Refusal)) → judge (l ++ m) ≡ ruled (judge l) Err (judge m)
judge_append l m = sym (ruled_itself (judge (l ++ m))) ∙ ruled_append Err (Ok tt) l m ∙ ap (ruled (judge l) Err) (ruled_itself (judge m))

-- ---- entry by entry

module _ {b : Bool} (r : Refusal) (l : List (Bool × Refusal)) where
  -- a test that holds refuses
  pub first_here : b ≡ true → FirstOf ((b, r) ∷ l) r
  unfolding judge
  first_here e = rw e

  -- one that does not leaves the rest to judge
  pub judge_rest : b ≡ false → judge ((b, r) ∷ l) ≡ judge l
  unfolding judge
  judge_rest e = rw e

-- where no test is left, the input passes
pub judge_end : NoneOf []
unfolding judge
judge_end = refl

pub none_head : (b : Bool) (r : Refusal) (l : List (Bool × Refusal)) → NoneOf ((b, r) ∷ l) → (b ≡ false) × NoneOf l
unfolding judge
none_head true r l h = (cc, cc)
none_head false r l h = (refl, h)

pub none_append : (l m : List (Bool × Refusal)) → NoneOf (l ++ m) → NoneOf l × NoneOf m
unfolding judge
none_append [] m h = (refl, h)
none_append (t ∷ l) m h =
    let a = none_head t.0 t.1 (l ++ m) h in
    let b = none_append l m a.1 in
    (judge_rest t.1 l a.0 ∙ b.0, b.1)

-- the list has the test b of r, wherever it stands
pub data Among (b : Bool) (r : Refusal) : List (Bool × Refusal) → Type 0 where
  here : {l : List (Bool × Refusal)} → Among b r ((b, r) ∷ l)
  later : {t : Bool × Refusal} {l : List (Bool × Refusal)} → Among b r l → Among b r (t ∷ l)

-- of a list of which none holds, this one does not
pub none_among : {b : Bool} (r : Refusal) {l : List (Bool × Refusal)} → NoneOf l → Among b r l → b ≡ false
none_among r h here = (none_head _ _ _ h).0
none_among r h (later a) = none_among r (none_head _ _ _ h).1 a

pub append_none : (l m : List (Bool × Refusal)) → NoneOf l → NoneOf m → NoneOf (l ++ m)
append_none l m h k = judge_append l m ∙ ruled_pass Err (judge m) h ∙ k

-- ---- the first that holds

pub record First (l : List (Bool × Refusal)) (r : Refusal) : Type 0 where
  pub before : List (Bool × Refusal)
  pub behind : List (Bool × Refusal)
  pub is : l ≡ before ++ (true, r) ∷ behind
  pub none : NoneOf before

refused_one : {r s : Refusal} → ◌≡◌ {A = Check} (Err r) (Err s) → r ≡ s
refused_one e = cc

pass_refused : {r : Refusal} → ◌≡◌ {A = Check} (Ok tt) (Err r) → ⊥
pass_refused e = let z : ◌≡◌ {A = ℕ} 0 1 = cc in omega arith

pub first_splits : (l : List (Bool × Refusal)) (r : Refusal) → FirstOf l r → First l r
unfolding judge
first_splits [] r h = absurd (pass_refused h)
first_splits ((true, s) ∷ l) r h = record { before = []; behind = l; is = ap (λ (q : Refusal). (true, q) ∷ l) (refused_one h); none = refl }
first_splits ((false, s) ∷ l) r h =
    let f = first_splits l r h in
    record { before = (false, s) ∷ f.before; behind = f.behind; is = ap (λ (m : List (Bool × Refusal)). (false, s) ∷ m) f.is; none = f.none }

pub first_stands : {l : List (Bool × Refusal)} {r : Refusal} → First l r → FirstOf l r
first_stands {l} {r} f = ap judge f.is ∙ judge_append f.before ((true, r) ∷ f.behind) ∙ ruled_pass Err _ f.none ∙ first_here r f.behind refl

-- ---- every list is decided, one way

pub decided : (l : List (Bool × Refusal)) → ((r : Refusal) × FirstOf l r) ⊎ NoneOf l
decided l = go (judge l) refl
  where
    go : (k : Check) → judge l ≡ k → ((r : Refusal) × FirstOf l r) ⊎ NoneOf l
    go (Ok u) e = inr e
    go (Err r) e = inl (r, e)

module _ (l : List (Bool × Refusal)) where
  pub first_none : {r : Refusal} → FirstOf l r → NoneOf l → ⊥
  first_none h n = pass_refused (sym n ∙ h)

  pub first_first : {r s : Refusal} → FirstOf l r → FirstOf l s → r ≡ s
  first_first h k = refused_one (sym h ∙ k)

-- a call whose answer goes by the list
pub decides : {A : Type 0} {refuse : Refusal → A} {given answer : A} (l : List (Bool × Refusal)) → answer ≡ ruled (judge l) refuse given → Decides l (λ (r : Refusal). answer ≡ refuse r) (answer ≡ given)
decides {refuse = f} {given = a} l e = record { refused = λ r h. e ∙ ruled_refused f a h; served = λ h. e ∙ ruled_pass f a h }
