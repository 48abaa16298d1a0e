-- `job::turns::run`: what is left to run from here is what was left at the start, less the steps made.
use mathlib.Core.Path.{◌≡◌, sym, ap, ◌∙◌}
use native.Mathlib.Omega.{arith}
use Rattle.job.specs.Turn.{tell_of}
use Rattle.job.proofs.Turning.{reached_none, reached_usable, reached_ready, reached_more, reached_over, reached_spent}
use Rattle.job.proofs.turns.run.Goals as goal

pub loop-made-init : goal.loop-made-init
loop-made-init c = reached_none _ (omega arith) c.requires.sound

pub tell-requires : goal.tell-requires
tell-requires c = reached_usable _ c.loop-made.invariant

pub returns-then-is_ended : goal.returns-then-is_ended
returns-then-is_ended c =
    reached_over _ c.loop-made.invariant _ (sym c.is_ended.ensures ∙ c.if-is_ended.true) c.tell.ensures

pub step-k-requires : goal.step-k-requires
step-k-requires c =
    let ready = reached_ready _ c.loop-made.invariant (sym c.is_ended.ensures ∙ c.if-is_ended.false) c.requires.own c.requires.room in
    record { sound = ready.0; own = ready.1.0; room = ready.1.1 }

pub loop-made-preserved : goal.loop-made-preserved
loop-made-preserved c =
    reached_more _ c.loop-made.invariant _ _ (omega arith) c.requires.room (omega arith) (sym c.is_ended.ensures ∙ c.if-is_ended.false) c.step-k.ensures

pub tell-requires-2 : goal.tell-requires-2
tell-requires-2 c = reached_usable _ c.loop-made.invariant

pub returns : goal.returns
returns c =
    let all : c.args.allowance ≡ c.loop-made.made = omega arith in
    reached_spent _ c.loop-made.invariant _ (omega arith) (c.tell-2.ensures ∙ ap (tell_of c.loop-made.k) all)
