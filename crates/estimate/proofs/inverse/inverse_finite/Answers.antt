-- `estimate::inverse::inverse_finite` meets its contract: the loop's answer is the fold over the rows so far.
use borrow.Author.Rules.{rules}
use mathlib.Core.Path.{◌≡◌, refl, ap, ◌∙◌}
use mathlib.Core.Bool.{Bool, ◌&&◌}
use mathlib.Core.List.{[]}
use native.Mathlib.Omega.{arith}
use lib.ListN.{length, get_or}
use Rattle.real.proofs.Fold.{more}
use Rattle.estimate.specs.Inverse.{all_step}
use Rattle.estimate.proofs.Products.{row_tested}
use Rattle.estimate.proofs.inverse.inverse_finite.Goals as goal

pub loop-p-preserved : goal.loop-p-preserved
unfolding all_step
loop-p-preserved c =
    let row = get_or c.args.a.now c.loop-p.p [] in
    let cells : length row ≡ 16 = search rules in
    more c.loop-p.invariant (search rules)
    (ap (λ (b : Bool). c.loop-p.good && b) (c.all_finite-good.ensures ∙ row_tested c.args.a.now c.args.m c.loop-p.p _ row refl (omega arith) (omega (arith, cells, c.requires))))
