-- The arms of the search's code.
use mathlib.Core.Path.{◌≡◌, sym, ap, ◌∙◌}
use mathlib.Core.Bool.{Bool, true, false, cond}
use Prim.Native.Nat.{ℕ, ◌≤◌}
use native.Mathlib.Omega.{arith}
use Rattle.real.specs.Fold.{range}
use Rattle.real.proofs.Fold.{kept, split}
use Rattle.setup.specs.declared.Setup.{Setup}
use Rattle.setup.specs.Data.{Data}
use Rattle.golden.specs.declared.Bracket.{Bracket}
use Rattle.golden.specs.Golden.{aim_of}
use Rattle.search.specs.declared.Search.{Search}
use Rattle.search.specs.Trial.{trial_of}
use Rattle.search.specs.Search.{opened_of, round_with, round_of}

abbrev search : Bracket → Bool → ℕ → Search
search g b n = record { bracket = g; over = b; solves = n }

module _ (u : Setup) (d : Data) where
  -- a search that is over stays as it is
  pub round_over : (r : ℕ) (s : Search) → s.over ≡ true → s ≡ round_of u d r s
  unfolding round_of
  round_over r s e = sym (ap (λ (b : Bool). cond b s (round_with s (trial_of u d (aim_of s.bracket)))) e)

  -- and so to the end
  pub over_rest : (i : ℕ) (s₀ s : Search) → i ≤ 100 → s.over ≡ true → s ≡ range (round_of u d) 0 i s₀ → s ≡ range (round_of u d) 0 100 s₀
  over_rest i s₀ s h e q =
      let f = round_of u d in
      sym (kept f i 100 (λ (t : Search). t ≡ s) (λ k t l p. ap (f k) p ∙ sym (round_over k s e)) (range f 0 i s₀) h (sym q))
      ∙ split f s₀ 0 i 100 (omega arith) h

  -- it is not before the rounds
  pub opened_on : (g : Bracket) (s : Search) → s ≡ opened_of u d g → s.over ≡ false
  unfolding opened_of
  opened_on g s e = ap (λ (t : Search). t.over) e
