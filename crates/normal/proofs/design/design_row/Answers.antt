-- `normal::design::design_row` meets its contract: the predictors stand behind the 1.
use mathlib.Core.Path.{◌∙◌}
use Prim.Native.Nat.{◌+◌, ◌-◌}
use native.Mathlib.Omega.{arith}
use Rattle.normal.specs.Design.{predictors_of}
use Rattle.normal.proofs.DesignCells.{own_long, design_alone, copied_in}
use Rattle.normal.proofs.design.design_row.Goals as goal

pub returns : goal.returns
returns c =
    let s = c.args in
    let x = s.x.now in
    let own = predictors_of x s.p s.j in
    let long = own_long x s.p s.j c.requires.0 in
    rw (c.copy_from_slice.ensures.after, c.predictors_of-own.ensures)
    (copied_in own (s.p + 1 - 1) (omega (arith, long, c.requires.1)) (omega (arith, long)) ∙ design_alone x s.p s.j c.requires.0)
