-- A job taken through turns of one allowance. Definitions only.
use Rattle.std.specs.Prelude.{ℕ, Result, Ok, Err, List, false, cond, eqb, length, Float}
use Rattle.std.specs.Float.{binary64}
use Rattle.std.specs.Float.Ieee.{of_bits}
use Rattle.real.specs.Fold.{range}
use Rattle.refusal.specs.declared.Refusal.{Refusal}
use Rattle.kernel.specs.declared.GwrKernel.{GwrKernel}
use Rattle.kernel.specs.declared.GwrKernel.TheVariants.{Gaussian, Bisquare, Exponential}
use Rattle.setup.specs.declared.GwrBandwidth.TheVariants.{Fixed}
use Rattle.setup.specs.declared.GwrOptions.{GwrOptions}
use Rattle.setup.specs.Data.{Data}
use Rattle.setup.specs.Options.{unguarded}
use Rattle.stepping.specs.declared.Job.{Job}
use Rattle.starting.specs.Begin.{begin_of}
use Rattle.job.specs.Turn.{turn_of}

-- 0 Gaussian, 1 Bisquare, any other the Exponential
unfoldable pub kernel_by : ℕ → GwrKernel
kernel_by k = cond (eqb k 0) Gaussian (cond (eqb k 1) Bisquare Exponential)

-- unsearched, at the distance 400
abbrev pub options_by : ℕ → GwrOptions
options_by k = unguarded (kernel_by k) (Fixed (of_bits binary64 0x4079_0000_0000_0000)) false

-- one turn of the allowance a: the record and the output after it
unfoldable pub turn_by : Data → ℕ → ℕ → Job × List Float → Job × List Float
turn_by d a i s = let t = turn_of s.0 d s.1 a in (t.0.job, t.1)

-- so many of them
unfoldable pub play_of : Data → ℕ → ℕ → Job × List Float → Job × List Float
play_of d a turns s = range (turn_by d a) 0 turns s

-- from beginning: the solves made, and the output; a refused beginning makes no job, and so no solve
abbrev pub played_from : Result Job Refusal → Data → ℕ → ℕ → List Float → ℕ × List Float
played_from (Ok j) d a turns out = let s = play_of d a turns (j, out) in (s.0.solves, s.1)
played_from (Err r) d a turns out = (0, out)

unfoldable pub turns_of : Data → ℕ → ℕ → ℕ → ℕ → List Float → ℕ × List Float
turns_of d p k a turns out = played_from (begin_of d p (options_by k) (length out)) d a turns out
