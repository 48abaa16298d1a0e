-- `calls::fitted_bytes`: what the fit wrote has room in the bytes.
use mathlib.Core.Path.{sym, ap, ◌∙◌}
use mathlib.Core.List.{[]}
use lib.Seq.{length-take-le}
use Rattle.sweep.specs.Finish.{number_at}
use Rattle.calls.proofs.Answers.{rows_within, fit_some, fitted_is}
use Rattle.calls.proofs.Bytes.{rows_placed}
use Rattle.calls.proofs.fitted_bytes.Goals as goal

pub slice_bounds-encode-end-2 : goal.slice_bounds-encode-end-2
slice_bounds-encode-end-2 c = sym (length-take-le _ _ (rows_within _ _ _ _ _ _ c.gwr_fit.ensures [] [] _ c.in_ok-fit.was))

pub store_summary-requires : goal.store_summary-requires
store_summary-requires c = c.requires.1.whole (fit_some _ _ _ _ _ _ c.gwr_fit.ensures [] [] _ c.in_ok-fit.was)

pub returns-in-Some : goal.returns-in-Some
returns-in-Some c =
    fitted_is _ _ _ _ _ _ c.gwr_fit.ensures _ _ _ c.in_ok-fit.was _ _ _ (c.encode.ensures ∙ rows_placed _ _) c.store_summary.ensures (sym (ap number_at c.in-Some.is))

pub returns-in-None : goal.returns-in-None
returns-in-None c =
    fitted_is _ _ _ _ _ _ c.gwr_fit.ensures _ _ _ c.in_ok-fit.was _ _ _ (c.encode.ensures ∙ rows_placed _ _) c.store_summary.ensures (sym (ap number_at c.in-None.is))
