-- `estimate::fit_coefficients` meets its contract: what the lent coefficients hold, or the refusal.
use mathlib.Core.Path.{◌∙◌}
use Rattle.checks.proofs.Tests.{handed_on}
use Rattle.estimate.proofs.Lent.{put_found, put_refused}
use Rattle.estimate.proofs.fit_coefficients.Goals as goal

pub returns-in_err-fit_into : goal.returns-in_err-fit_into
returns-in_err-fit_into c = handed_on c.from_residual.ensures ∙ put_refused _ _ c.in_err-fit_into.ensures

pub returns : goal.returns
returns c = put_found _ _ c.in_ok-fit_into.ensures
