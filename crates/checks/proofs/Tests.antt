-- What `search` is handed for a function that reads lists of tests, so that its proof says no place in it.
--     tests      `search tests`: a list read from its top. Each branch tells the value of its own test, and the list is read on from there
--     lists      `search lists`: one list read after the other, and what comes of the whole
-- A further entry, or list, asks for one further need and for no other lemma.
use mathlib.Core.Path.{◌≡◌, sym, ap, ◌∙◌}
use mathlib.Core.Bool.{Bool, not}
use mathlib.Core.List.{List, ◌++◌}
use borrow.Author.Tests.{eq-eqb, ne_eqb, lt-ltb, le-ltb}
use Rattle.refusal.specs.declared.Refusal.{Refusal}
use Rattle.std.specs.Prelude.{Result, Ok, Err, IsErr, IsErrAnd}
use Rattle.checks.specs.Judge.{Check, judge, ruled}
use Rattle.checks.proofs.Judge.{first_here, judge_rest, judge_end, judge_append, ruled_refused, ruled_pass}

-- a test that a function makes for the caller
pub made : {a b c : Bool} → a ≡ b → a ≡ c → b ≡ c
made e f = sym e ∙ f

pub made_not : {a b c : Bool} → a ≡ b → not a ≡ c → not b ≡ c
made_not e f = sym (ap not e) ∙ f

pub ruleset tests = (first_here, judge_rest, judge_end, eq-eqb, ne_eqb, lt-ltb, le-ltb, made, made_not)

-- the refusal that a `?` hands on
pub handed_on : {A : Type 0} {r : Result A Refusal} {q : Refusal} → IsErr r × IsErrAnd r (λ z. z ≡ q) → r ≡ Err q
handed_on {r = Ok v} h = absurd h.1
handed_on {r = Err z} h = ap Err h.1

-- a list that a function reads for the caller
pub read : {a b c : Check} → a ≡ b → a ≡ c → b ≡ c
read e f = sym e ∙ f

module _ (l m : List (Bool × Refusal)) where
  pub first_refuses : {r : Refusal} → judge l ≡ Err r → Err r ≡ judge (l ++ m)
  first_refuses e = sym (judge_append l m ∙ ruled_refused Err (judge m) e)

  pub first_passes : {k : Check} → judge l ≡ Ok tt → k ≡ judge m → k ≡ judge (l ++ m)
  first_passes e f = f ∙ sym (judge_append l m ∙ ruled_pass Err (judge m) e)

module _ {A : Type 0} (refuse : Refusal → A) (given : A) {k : Check} where
  pub refused_so : {r : Refusal} → k ≡ Err r → refuse r ≡ ruled k refuse given
  refused_so e = sym (ruled_refused refuse given e)

  pub given_so : {a : A} → k ≡ Ok tt → a ≡ given → a ≡ ruled k refuse given
  given_so e f = f ∙ sym (ruled_pass refuse given e)

pub ruleset lists = (read, first_refuses, first_passes, refused_so, given_so)
