-- One pantry by its trust, by computing: `trusted_example`.
use mathlib.Core.Path.{refl}
use Rattle.examples.specs.Trusted.{TrustedExample}
use Rattle.examples.proofs.Computing.{fitting}

pub trusted_example : TrustedExample
unfolding fitting
trusted_example = record { half = refl; tiny = refl; nothing = refl; minus_nothing = refl; unknown = refl; too_much = refl }
