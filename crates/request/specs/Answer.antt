-- The number that a byte call answers. Definitions only.
use Rattle.std.specs.Prelude.{ℕ, Ok, Err}
use Rattle.refusal.specs.Numbers.{refusal_number}
use Rattle.checks.specs.Judge.{Check}

-- 0 where nothing is refused, else the refusal's number; it tells the answer, by proofs/Answers `answer_tells`
abbrev pub answer_number : Check → ℕ
answer_number (Ok served) = 0
answer_number (Err r) = refusal_number r
