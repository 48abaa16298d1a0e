-- `intake::read_part`: the part's front is what was read.
use borrow.Author.Rules.{rules}
use Rattle.intake.proofs.Consumed.{more, front_more}
use Rattle.intake.proofs.read_part.Goals as goal

pub loop-done-preserved : goal.loop-done-preserved
loop-done-preserved g c =
    let l = c.loop-done.invariant in
    record {
      within = search rules;
      bytes = more _ _ _ _ _ _ l.bytes c.in-Ok.ensures.bytes.0 (front_more c.loop-done.done c.in-Ok.n c.loop-done.part c.read.new.buf _ l.within c.in-Ok.ensures.bound.0);
    }
