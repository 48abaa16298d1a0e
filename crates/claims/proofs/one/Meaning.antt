-- What the tests of demand 1's lists mean: each law is of the crate that has the test.
use lib.Ieee.{Float}
use Rattle.std.specs.Prelude.{Result}
use Rattle.refusal.specs.declared.Refusal.{Refusal}
use mathlib.Core.Path.{◌≡◌, refl, sym, subst}
use mathlib.Core.Bool.{Bool, true}
use borrow.Author.Tests.{leb-true, le-leb}
use Rattle.claims.specs.Words.{Means, Stage, First, Second, Round, Final, Ended, is_ended}
use Rattle.claims.proofs.Laws.{never, not_means, and_means, or_means, equal_means, below_means, weightless_means, inverse_not_finite_means, coefficient_not_finite_means, not_finite_means, trust_out_of_range_means, unusable_distance_means, no_distance_range_means, lengths_fit_means, kinds_means, distance_means, unknown_means}
use Rattle.claims.specs.Meanings.{Meanings}

itself : (b : Bool) → Means b (b ≡ true)
itself b = (λ e. e, λ e. e)

-- a stage that is none of an end's
clash : (x : Stage) (c : Result Float Refusal) → x ≡ Ended c → is_ended x ≡ true
clash x c e = subst (λ (y : Stage). is_ended y ≡ true) (sym e) refl

ended_means : (x : Stage) → Means (is_ended x) ((c : Result Float Refusal) × (x ≡ Ended c))
ended_means x = (back x, λ h. clash x h.0 h.1)
  where
    back : (y : Stage) → is_ended y ≡ true → (c : Result Float Refusal) × (y ≡ Ended c)
    back First e = never e
    back Second e = never e
    back Round e = never e
    back Final e = never e
    back (Ended c) e = (c, refl)

pub meanings : Meanings
meanings =
    record {
      equal = equal_means;
      below = below_means;
      at_most = λ a b. (leb-true a b, le-leb a b);
      contrary = λ b. not_means b (itself b);
      both = λ a b. and_means a b (itself a) (itself b);
      either = λ a b. or_means a b (itself a) (itself b);
      not_finite = not_finite_means;
      negative = distance_means;
      trusts = trust_out_of_range_means;
      unusable = unusable_distance_means;
      nothing = no_distance_range_means;
      weightless = weightless_means;
      inverse = inverse_not_finite_means;
      coefficients = coefficient_not_finite_means;
      unknown = unknown_means;
      kinds = kinds_means;
      ended = ended_means;
      lengths = lengths_fit_means;
    }
