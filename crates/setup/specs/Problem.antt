-- A job's options and sizes beside its data, which have the lengths that the sizes say: what every solve works on. Definitions only.
use Rattle.std.specs.Prelude.{List, Float}
use Rattle.setup.specs.declared.Setup.{Setup}
use Rattle.setup.specs.Data.{Data, data_of, trusted_data}

-- what is fitted, and to what
pub record Posed : Type 0 where
  pub setup : Setup
  pub columns : Data

-- 02: each observation gets a trust
abbrev pub trusting_each : List Float → Posed → Posed
trusting_each trusts q = record { setup = q.setup; columns = trusted_data q.columns.coords q.columns.predictors q.columns.responses trusts }

-- the same without its trusts: what 000 is handed
abbrev pub sample_of : Posed → Posed
sample_of q = record { setup = q.setup; columns = data_of q.columns.coords q.columns.predictors q.columns.responses }
