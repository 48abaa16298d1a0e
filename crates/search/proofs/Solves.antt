-- A trial, and how many solves trials and searches make: laws of the definitions.
use mathlib.Core.Path.{◌≡◌, refl, subst⁻¹}
use mathlib.Core.Bool.{Bool, true, false}
use mathlib.Core.List.{[]}
use Prim.Native.Nat.{ℕ, zero, suc, ◌+◌, ◌*◌, ◌≤◌}
use native.Mathlib.Nat.{sub-zero}
use native.Mathlib.Omega.{arith}
use lib.Ieee.{Float}
use Rattle.real.specs.Fold.{turns, range}
use Rattle.setup.specs.declared.Setup.{Setup}
use Rattle.setup.specs.Bandwidth.{Usable}
use Rattle.setup.specs.Data.{Data}
use Rattle.setup.specs.Shape.{Sized}
use Rattle.golden.specs.declared.Bracket.{Bracket}
use Rattle.golden.specs.Golden.{start_of, aim_of}
use Rattle.bounds.specs.Bounds.{bandwidth_at}
use Rattle.bounds.proofs.Usable.{bandwidth_usable}
use Rattle.sweep.proofs.Sweeps.{sweep_solves}
use Rattle.search.specs.declared.Trial.{Trial}
use Rattle.search.specs.declared.Search.{Search}
use Rattle.search.specs.declared.Optimum.{Optimum}
use Rattle.search.specs.Trial.{trial_of}
use Rattle.search.specs.Search.{round_of, opened_of, golden_of, optimize_bandwidth}

abbrev trial : Float → ℕ → Trial
trial v n = record { score = v; solves = n }

module _ (u : Setup) (d : Data) (few : u.n ≤ 512) where
  -- a trial makes 512 solves at most
  pub trial_few : (point : Float) → (trial_of u d point).solves ≤ 512
  unfolding trial_of
  trial_few point = let h = sweep_solves false u d (bandwidth_at u point) [] in omega (arith, h, few)

  pub trial_made : (point : Float) (t : Trial) → t ≡ trial_of u d point → t.solves ≤ 512
  trial_made point t e = subst⁻¹ (λ (x : Trial). x.solves ≤ 512) e (trial_few point)

  opened_few : (g : Bracket) → (opened_of u d g).solves ≤ 1024
  unfolding opened_of
  opened_few g = omega (arith, trial_few g.c, trial_few g.d)

  round_next : (r : ℕ) (s : Search) → (round_of u d r s).solves ≤ s.solves + 512
  unfolding round_of
  round_next r s = go s.over refl
    where
      go : (b : Bool) → s.over ≡ b → (round_of u d r s).solves ≤ s.solves + 512
      go true e = rw e (omega arith)
      go false e = rw e (omega (arith, trial_few (aim_of s.bracket)))

  turns_few : (r : ℕ) (s : Search) → (turns (round_of u d) 0 r s).solves ≤ s.solves + 512 * r
  unfolding turns
  turns_few zero s = omega arith
  turns_few (suc k) s = let h = round_next (0 + k) (turns (round_of u d) 0 k s) in omega (arith, h, turns_few k s)

  -- so a search makes 512 for each of its two first trials, and for each round
  pub rounds_few : (r : ℕ) (g : Bracket) → (range (round_of u d) 0 r (opened_of u d g)).solves ≤ 512 * (r + 2)
  unfolding range
  rounds_few r g = rw sub-zero (let h = turns_few r (opened_of u d g) in omega (arith, h, opened_few g))

  pub rounds_made : (r : ℕ) (g : Bracket) (s : Search) → s ≡ range (round_of u d) 0 r (opened_of u d g) → r ≤ 100 → s.solves ≤ 512 * 102
  rounds_made r g s e h = let k = subst⁻¹ (λ (t : Search). t.solves ≤ 512 * (r + 2)) e (rounds_few r g) in omega (arith, k, h)

  pub golden_few : (lo hi : Float) → (golden_of u d lo hi).solves ≤ 512 * 102
  unfolding golden_of
  golden_few lo hi = rounds_few 100 (start_of lo hi)

-- what a search found can be used
pub optimum_made : (u : Setup) (d : Data) → Sized u → (lo hi : Float) (m : Optimum) → m ≡ optimize_bandwidth u d lo hi → Usable m.bandwidth × (m.solves ≤ 512 * 102)
unfolding optimize_bandwidth
optimum_made u d z lo hi m e =
    subst⁻¹ (λ (o : Optimum). Usable o.bandwidth × (o.solves ≤ 512 * 102)) e (bandwidth_usable u z (golden_of u d lo hi).bracket.best, golden_few u d z.few lo hi)
