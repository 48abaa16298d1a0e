-- All that `gwrprint` prints, as a function of all of its standard input. Definitions only.
use Rattle.std.specs.Prelude.{ℕ, List, ◌++◌, take, drop, Ok, Err}
use Rattle.checks.specs.Judge.{judge, ruled}
use Rattle.header.specs.Headers.{Header, head_of, header_of, asked}
use Rattle.listing.specs.Jobs.{refused_text, job_text}
use Rattle.listing.specs.Numbers.{print_tests, text_of_fit}

-- 01: `gwrprint` reads a header of five numbers, 8 bytes each, then the parts; bytes left over are ignored. The first test that holds refuses; where none holds, the fit of the numbers is printed
unfoldable pub printed : List ℕ → List ℕ
printed input = ruled (judge (print_tests input)) refused_text (text_of_fit (head_of input) (drop 40 input))

-- ---- what the code's parts give; proofs/Judged proves that `printed` is `printed_parts`

abbrev pub text_of : Header → List ℕ → List ℕ
text_of (Ok h) parts = job_text h parts
text_of (Err r) parts = refused_text r

unfoldable pub printed_parts : List ℕ → List ℕ
printed_parts input = text_of (header_of input) (drop 40 input)

-- ---- what the program reads

-- 40 bytes, then as many as these ask for; proofs/Reading proves that what is printed of them is what is printed of the whole input
abbrev pub read_of : List ℕ → List ℕ
read_of input = take 40 input ++ take (asked (header_of (take 40 input))) (drop 40 input)
