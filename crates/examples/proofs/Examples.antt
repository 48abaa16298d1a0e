-- The eleven examples, by computing: `eleven`.
use mathlib.Core.Path.{refl}
use Rattle.examples.specs.Examples.{ElevenExamples}
use Rattle.examples.proofs.Computing.{fitting}

pub eleven : ElevenExamples
unfolding fitting
eleven =
    record {
      one_alone = refl;
      among_ten = refl;
      among_most = refl;
      capped = refl;
      bisquare_within = refl;
      bisquare_border = refl;
      exp_zero = refl;
      exp_far = refl;
      ln_one = refl;
      two_report_two = refl;
      listing_aicc = refl;
    }
