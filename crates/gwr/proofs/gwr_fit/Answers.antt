-- `gwr::gwr_fit`: by what is said of the input, and by the plan.
use mathlib.Core.Path.{sym, subst, ◌∙◌}
use native.Mathlib.Omega.{arith}
use Rattle.plan.proofs.Planned.{Serves, accept_planned}
use Rattle.gwr.proofs.Fits.{shaped_is, room_is}
use Rattle.gwr.proofs.gwr_fit.Goals as goal

pub pose-problem-requires : goal.pose-problem-requires
pose-problem-requires c =
    let a = accept_planned _ _ _ _ (sym c.accept.ensures ∙ c.in_ok-plan.was) in
    shaped_is _ _ _ _ c.columns.view_is a.accepted.shaped

pub final_of-requires : goal.final_of-requires
final_of-requires c =
    let a = accept_planned _ _ _ _ (sym c.accept.ensures ∙ c.in_ok-plan.was) in
    let room = room_is _ _ _ _ c.columns.view_is _ c.pose-problem.ensures _ a.accepted.room in
    record { usable = (subst (Serves _) c.in-Settled.is a.serves).0; room = (room, omega arith) }

pub sought_of-requires : goal.sought_of-requires
sought_of-requires c =
    let a = accept_planned _ _ _ _ (sym c.accept.ensures ∙ c.in_ok-plan.was) in
    record { room = room_is _ _ _ _ c.columns.view_is _ c.pose-problem.ensures _ a.accepted.room }
