-- A bandwidth's key gives the bandwidth back, so that a trial with the same key is the same trial.
use mathlib.Core.Path.{◌≡◌, refl, sym, ap, subst, ◌∙◌}
use mathlib.Core.Bool.{Bool, true, false}
use mathlib.Core.List.{List}
use Prim.Native.Nat.{ℕ, zero, suc, ◌<◌}
use native.Mathlib.Omega.{arith}
use lib.Dec.{T, eqb}
use lib.ListN.{get_or, set, replicate, length-set, length-replicate}
use lib.Seq.{get_or-set_same, get_or-set_other}
use lib.Ieee.{Float, binary64, fits}
use borrow.Author.Tests.{eqb-true, eqb-false}
use Rattle.wire.proofs.Floats.{bits_real}
use Rattle.setup.specs.declared.GwrBandwidth.{GwrBandwidth}
use Rattle.setup.specs.declared.GwrBandwidth.TheVariants.{Fixed, AdaptiveKnn}
use Rattle.setup.specs.declared.Setup.{Setup}
use Rattle.setup.specs.Data.{Data}
use Rattle.bounds.specs.Bounds.{point_of, bandwidth_at}
use Rattle.std.specs.Prelude.{Option, Some, None}
use Rattle.search.specs.declared.Trial.{Trial}
use Rattle.search.specs.declared.Tried.{Tried}
use Rattle.search.specs.Trial.{evaluate_aicc, trial_of}
use Rattle.search.specs.Memo.{key_of, bandwidth_with, Remembered}

-- every bandwidth of a search is of the options' kind
told_of : (kind : GwrBandwidth) (point : Float) (least greatest : ℕ) → T (fits binary64 point)
    → bandwidth_with kind (key_of (point_of kind point least greatest)) ≡ point_of kind point least greatest
unfolding point_of
told_of (Fixed b) point least greatest h = ap Fixed (bits_real point h)
told_of (AdaptiveKnn k) point least greatest h = refl

module _ (u : Setup) (d : Data) (point : Float) (fit : T (fits binary64 point)) (b : GwrBandwidth) (key : ℕ) (hb : b ≡ bandwidth_at u point) (hk : key ≡ key_of b) where
  -- the bandwidth that the key tells is that of the point
  told : bandwidth_with u.options.bandwidth key ≡ bandwidth_at u point
  unfolding bandwidth_at
  told = ap (bandwidth_with u.options.bandwidth) (hk ∙ ap key_of hb) ∙ told_of u.options.bandwidth point _ _ fit

  pub point_is : (t : Trial) → t ≡ evaluate_aicc u d b → t ≡ trial_of u d point
  unfolding trial_of
  point_is t h = h ∙ ap (evaluate_aicc u d) hb

  module _ {tried : List (Option Tried)} (memo : Remembered u d tried) (j : ℕ) where
    -- an entry in use that has the point's key holds the point's trial
    pub recalled : (t : Tried) → get_or tried j None ≡ Some t → t.key ≡ key → t.trial ≡ trial_of u d point
    unfolding trial_of
    recalled t h e = memo.entry j t h ∙ ap (evaluate_aicc u d) (ap (bandwidth_with u.options.bandwidth) e ∙ told)

    -- and the point's trial may be put into any entry
    pub kept : (t : Trial) → t ≡ evaluate_aicc u d b → j < 102 → Remembered u d (set tried j (Some (record { key = key; trial = t })))
    kept t ht low = record { long = simp length-set memo.long; entry = λ i s h. go i s h (eqb i j) refl }
      where
        put : Tried
        put = record { key = key; trial = t }

        Right : Tried → Type 0
        Right s = s.trial ≡ evaluate_aicc u d (bandwidth_with u.options.bandwidth s.key)

        go : (i : ℕ) (s : Tried) → get_or (set tried j (Some put)) i None ≡ Some s → (q : Bool) → eqb i j ≡ q → Right s
        go i s h true e =
            let at : get_or (set tried j (Some put)) i None ≡ Some put = rw (eqb-true i j e) (get_or-set_same tried j (Some put) None (omega (arith, memo.long))) in
            let is : put ≡ s = cc in
            subst Right is (ht ∙ ap (evaluate_aicc u d) (hb ∙ sym told))
        go i s h false e = memo.entry i s (sym (get_or-set_other tried j i (Some put) None (eqb-false i j e)) ∙ h)

-- before a search no entry is in use
unused : (k j : ℕ) → ◌≡◌ {A = Option Tried} (get_or (replicate k None) j None) None
unused zero j = refl
unused (suc k) zero = refl
unused (suc k) (suc j) = unused k j

pub forgotten : (u : Setup) (d : Data) → Remembered u d (replicate 102 None)
forgotten u d = record { long = simp length-replicate; entry = λ j t h. let e = unused 102 j in absurd cc }
