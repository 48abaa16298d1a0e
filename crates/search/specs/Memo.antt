-- The trials that a search has made, remembered so that none is worked twice. Definitions only.
use Rattle.std.specs.Prelude.{ℕ, ◌≡◌, Bool, true, List, eqb, length, get_or, position, Option, Some, None, unwrap_or}
use Rattle.wire.specs.Wire.{bits_of, real_of}
use Rattle.setup.specs.declared.GwrBandwidth.{GwrBandwidth}
use Rattle.setup.specs.declared.GwrBandwidth.TheVariants.{Fixed, AdaptiveKnn}
use Rattle.setup.specs.declared.Setup.{Setup}
use Rattle.setup.specs.Data.{Data}
use Rattle.search.specs.declared.Tried.{Tried}
use Rattle.search.specs.Trial.{evaluate_aicc}

-- what tells a bandwidth from the others of its kind: the distance's bits, or the count
abbrev pub key_of : GwrBandwidth → ℕ
key_of (Fixed b) = bits_of b
key_of (AdaptiveKnn k) = k

-- the bandwidth of a kind that has this key
abbrev pub bandwidth_with : GwrBandwidth → ℕ → GwrBandwidth
bandwidth_with (Fixed b) key = Fixed (real_of key)
bandwidth_with (AdaptiveKnn k) key = AdaptiveKnn key

-- whether an entry serves for a key: it is free, or has the key
abbrev pub serves : ℕ → Option Tried → Bool
serves key None = true
serves key (Some t) = eqb t.key key

-- the entry for a key: of 102 the first that serves, else the last
abbrev pub slot_of : List (Option Tried) → ℕ → ℕ
slot_of tried key = unwrap_or (position (serves key) tried) 101

-- there are 102 entries, and each in use holds the trial at the bandwidth that its key tells
pub record Remembered (u : Setup) (d : Data) (tried : List (Option Tried)) : Type 0 where
  pub long : length tried ≡ 102
  pub entry : (j : ℕ) (t : Tried) → get_or tried j None ≡ Some t → t.trial ≡ evaluate_aicc u d (bandwidth_with u.options.bandwidth t.key)
