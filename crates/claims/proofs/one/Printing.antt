-- The program `gwrprint`: which standard inputs are refused, and what is printed of the others.
use mathlib.Core.Path.{◌≡◌}
use mathlib.Core.List.{List}
use Prim.Native.Nat.{ℕ, ◌+◌, ◌*◌}
use lib.ListN.{drop, replicate}
use Rattle.claims.specs.Words.{zero64, Refusal, Decides, head_of, refused_text, printed, data_in, options_in, print_tests}
use Rattle.claims.proofs.Laws.{printed_decides, print_passed}
use Rattle.claims.specs.DemandOne.{PrintServed}
use Rattle.claims.proofs.one.Deciding.{fit_decides}

module _ (input : List ℕ) where
  pub printing_decides : Decides (print_tests input) (λ (r : Refusal). printed input ≡ refused_text r) (PrintServed input)
  printing_decides =
      let t = printed_decides input in
      record {
        refused = t.refused;
        served = λ h.
            let z = head_of input in
            record { numbers = (fit_decides (data_in z (drop 40 input)) z.p (options_in z) (replicate (z.n * (z.p + 4)) zero64)).served (print_passed input h).fitted; text = t.served h };
      }
