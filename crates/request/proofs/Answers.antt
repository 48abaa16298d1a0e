-- The number of an answer tells the answer.
use mathlib.Core.Path.{◌≡◌, refl, ap}
use native.Mathlib.Omega.{arith}
use Rattle.std.specs.Prelude.{Ok, Err}
use Rattle.refusal.proofs.Range.{numbered}
use Rattle.refusal.proofs.Distinct.{number_tells}
use Rattle.checks.specs.Judge.{Check}
use Rattle.request.specs.Answer.{answer_number}

pub answer_tells : (a b : Check) → answer_number a ≡ answer_number b → a ≡ b
answer_tells (Ok served) (Ok also) e = refl
answer_tells (Ok served) (Err r) e = absurd (omega (arith, (numbered r).some, e))
answer_tells (Err r) (Ok served) e = absurd (omega (arith, (numbered r).some, e))
answer_tells (Err r) (Err s) e = ap Err (number_tells r s e)
