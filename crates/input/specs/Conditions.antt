-- What the tests of values and options ask, in the words of document 01. Definitions only.
use Rattle.std.specs.Prelude.{◌≡◌, Bool, true, false, not, List, [], ◌∷◌, ◌⊎◌, T, Float}
use Rattle.std.specs.Float.{inf}
use Rattle.std.specs.Float.Ieee.{lt, le, eq, is_nan}
use Rattle.std.specs.Float.Ieee.Scale.{finite}
use Rattle.real.specs.Reals.{zero64, one64}
use Rattle.setup.specs.Data.{Trusts}
use Rattle.setup.specs.Data.Trusts.{unasked, each}
use Rattle.setup.specs.declared.GwrBandwidth.{GwrBandwidth}
use Rattle.setup.specs.declared.GwrBandwidth.TheVariants.{Fixed, AdaptiveKnn}

-- some number of the list is NaN or infinite
abbrev pub SomeNotFinite : List Float → Type 0
SomeNotFinite [] = ⊥
SomeNotFinite (v ∷ l) = T (not (finite v)) ⊎ SomeNotFinite l

-- x is NaN, below 0 or above 1; -0 is none of these
abbrev pub OutOfUnit : Float → Type 0
OutOfUnit x = T (is_nan x) ⊎ (T (lt x zero64) ⊎ T (lt one64 x))

-- 26: some trust that is asked for is
abbrev pub SomeOutOfUnit : List Float → Type 0
SomeOutOfUnit [] = ⊥
SomeOutOfUnit (v ∷ l) = OutOfUnit v ⊎ SomeOutOfUnit l

abbrev pub BadTrust : Trusts → Type 0
BadTrust unasked = ⊥
BadTrust (each t) = SomeOutOfUnit t

-- 11: not searched, a distance, and that not finite or ≤ 0
abbrev pub UnusableGiven : Bool → GwrBandwidth → Type 0
UnusableGiven true w = ⊥
UnusableGiven false (Fixed b) = T (not (finite b)) ⊎ T (le b zero64)
UnusableGiven false (AdaptiveKnn k) = ⊥

-- 12: searched, a distance, and hi zero or infinite; the distance given is not looked at
abbrev pub NothingBetween : Bool → GwrBandwidth → Float → Type 0
NothingBetween true (Fixed b) hi = T (eq hi zero64) ⊎ (hi ≡ inf false)
NothingBetween true (AdaptiveKnn k) hi = ⊥
NothingBetween false w hi = ⊥
