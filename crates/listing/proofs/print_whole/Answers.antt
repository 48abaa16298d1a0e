-- `listing::print_whole`: what a fit's answer is at most.
use Rattle.listing.proofs.Texts.{fit_answered}
use Rattle.listing.proofs.print_whole.Goals as goal

pub print_answer-requires-clause-few_solves : goal.print_answer-requires-clause-few_solves
print_answer-requires-clause-few_solves c = (fit_answered _ _ _ _ _ _ _ _ _ _ c.fit_bytes-answer.ensures).solves
