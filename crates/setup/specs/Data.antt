-- The columns of a job's data that are handed over, as documents 01 and 02 have them. Definitions only.
use Rattle.std.specs.Prelude.{ℕ, List, length, replicate, Float}
use Rattle.real.specs.Reals.{one64}

-- 02: each observation gets a trust. 000 and 01 ask for none
pub data Trusts : Type 0 where
  unasked : Trusts
  each : List Float → Trusts

-- of each observation easting and northing, its predictors row by row, its response, and its trust
pub record Data : Type 0 where
  pub coords : List Float
  pub predictors : List Float
  pub responses : List Float
  pub trusts : Trusts

-- as 000 has them
abbrev pub data_of : List Float → List Float → List Float → Data
data_of coords x y = record { coords = coords; predictors = x; responses = y; trusts = unasked }

-- from the slices that are lent, trusts among them
abbrev pub trusted_data : List Float → List Float → List Float → List Float → Data
trusted_data coords x y trust = record { coords = coords; predictors = x; responses = y; trusts = each trust }

-- 02: every trust set to 1
abbrev pub trusting : List Float → List Float → List Float → Data
trusting coords x y = trusted_data coords x y (replicate (length y) one64)

-- how many trusts there are; where none are asked for, as many as responses
abbrev pub count_in : Trusts → ℕ → ℕ
count_in unasked y = y
count_in (each t) y = length t

abbrev pub trust_count : Data → ℕ
trust_count d = count_in d.trusts (length d.responses)
