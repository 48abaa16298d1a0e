-- Every default count, by computing: `every_default_count`.
use mathlib.Core.Path.{refl}
use Rattle.counts.specs.Count.{resolve_count}
use Rattle.examples.specs.DefaultCounts.{EveryDefaultCount}

pub every_default_count : EveryDefaultCount
unfolding resolve_count
every_default_count = record { every = refl }
