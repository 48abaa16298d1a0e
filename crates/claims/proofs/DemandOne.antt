-- Demand 1 holds.
use Rattle.claims.specs.DemandOne.{DemandOne}
use Rattle.claims.proofs.one.Meaning.{meanings}
use Rattle.claims.proofs.one.Solved.{solve_decides}
use Rattle.claims.proofs.one.Deciding.{fit_decides, begin_decides}
use Rattle.claims.proofs.one.Turning.{turn_decides}
use Rattle.claims.proofs.one.Called.{fit_call_decides, weight_call_decides}
use Rattle.claims.proofs.one.Printing.{printing_decides}
use Rattle.claims.proofs.Laws.{weigh_decides}

pub demand_one : DemandOne
demand_one =
    record {
      means = meanings;
      fits = fit_decides;
      solves = solve_decides;
      begins = begin_decides;
      turns = turn_decides;
      fit_calls = fit_call_decides;
      weight_calls = weight_call_decides;
      weights = weigh_decides;
      prints = printing_decides;
    }
