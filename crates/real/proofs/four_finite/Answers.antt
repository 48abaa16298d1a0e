-- `real::four_finite` meets its contract.
use Rattle.real.proofs.Values.{less_tells, times_tells, told}
use Rattle.real.proofs.four_finite.Goals as goal

pub returns : goal.returns
returns c =
    told (times_tells c.args.d (times_tells c.args.c (times_tells c.args.b (less_tells c.args.a))))
