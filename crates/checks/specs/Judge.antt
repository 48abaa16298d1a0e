-- An ordered list of tests, each with its refusal. Definitions only.
use Rattle.std.specs.Prelude.{◌≡◌, Bool, true, cond, List, [], ◌∷◌, ◌↔◌, Result, Ok, Err}
use Rattle.refusal.specs.declared.Refusal.{Refusal}

-- what a check says: that the input passes, or what refuses it
abbrev pub Check : Type 0
Check = Result (Unit {0}) Refusal

-- the first test that holds gives its refusal; where none holds, the input passes
unfoldable pub judge : List (Bool × Refusal) → Check
judge [] = Ok tt
judge (t ∷ ts) = cond t.0 (Err t.1) (judge ts)

-- what a check leads to: what its refusal is answered with, or what an input that passes is given
unfoldable pub ruled : {A : Type 0} → Check → (Refusal → A) → A → A
ruled (Ok passed) refuse given = given
ruled (Err r) refuse given = refuse r

-- the test of r is the first that holds
abbrev pub FirstOf : List (Bool × Refusal) → Refusal → Type 0
FirstOf l r = judge l ≡ Err r

-- none holds
abbrev pub NoneOf : List (Bool × Refusal) → Type 0
NoneOf l = judge l ≡ Ok tt

-- a call that refuses with r exactly when r's test is the first of the list that holds, and serves every input of which none holds
pub record Decides (l : List (Bool × Refusal)) (Refuses : Refusal → Type 0) (Serves : Type 0) : Type 0 where
  pub refused : (r : Refusal) → FirstOf l r → Refuses r
  pub served : NoneOf l → Serves

-- a test holds exactly when P does
abbrev pub Means : Bool → Type 0 → Type 0
Means b P = (b ≡ true) ↔ P
