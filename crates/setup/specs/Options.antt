-- Options: as 000 has them, where none are given, and with another criterion. Definitions only.
use Rattle.std.specs.Prelude.{Bool, false}
use Rattle.kernel.specs.declared.GwrKernel.{GwrKernel}
use Rattle.kernel.specs.declared.GwrKernel.TheVariants.{Bisquare}
use Rattle.setup.specs.declared.GwrBandwidth.{GwrBandwidth}
use Rattle.setup.specs.declared.GwrBandwidth.TheVariants.{AdaptiveKnn}
use Rattle.setup.specs.declared.GwrCriterion.{GwrCriterion}
use Rattle.setup.specs.declared.GwrCriterion.TheVariants.{Unguarded}
use Rattle.setup.specs.declared.GwrOptions.{GwrOptions}
use Rattle.setup.specs.declared.Setup.{Setup}

-- 000's options; 02: unguarded remains the default
abbrev pub unguarded : GwrKernel → GwrBandwidth → Bool → GwrOptions
unguarded kernel bandwidth search = record { kernel = kernel; bandwidth = bandwidth; optimize_bandwidth = search; criterion = Unguarded }

-- 01's default options: Bisquare, count 0, no search
abbrev pub default_options : GwrOptions
default_options = unguarded Bisquare (AdaptiveKnn 0) false

-- the same options but for the criterion
abbrev pub judged_by : GwrCriterion → GwrOptions → GwrOptions
judged_by c o = record { kernel = o.kernel; bandwidth = o.bandwidth; optimize_bandwidth = o.optimize_bandwidth; criterion = c }

-- the same job but for the criterion
abbrev pub under : GwrCriterion → Setup → Setup
under c u = record { options = judged_by c u.options; n = u.n; p = u.p }
