-- `input::observations_good` meets its contract.
use Rattle.std.proofs.Common.{arith}
use Rattle.std.specs.List.{zip}
use Rattle.std.proofs.lemmas.Slice.Zip.{length-zip}
use Rattle.std.proofs.lemmas.Iterator.{YieldsList-from_slice, YieldsList-from_zip}
use Rattle.std.proofs.lemmas.List.{length_push}
use Rattle.std.proofs.lemmas.Iterator.Consumers.{YieldsList-turn, YieldsList-end}
use Rattle.input.proofs.Observations.{walked_none, walked_on, walked_all}
use Rattle.input.proofs.observations_good.Goals as goal

pub loop-place-init : goal.loop-place-init
loop-place-init c = walked_none

pub loop-place-preserved : goal.loop-place-preserved
loop-place-preserved c =
    let all = YieldsList-from_zip {s = c.into_iter-place-iterator.result} (YieldsList-from_zip {s = c.into_iter-place-iterator.result.a} (YieldsList-from_slice c.as_chunks.result.0.now (cc)) (YieldsList-from_slice c.args.y.now (cc))) (YieldsList-from_slice c.args.trust.now (cc)) in
    let turn = YieldsList-turn all c.loop-place.yielded _ c.loop-place.yielded_by _ c.next.new.self _ c.in-Some.is c.next.ensures.steps in
    let count = length_push c.loop-place.yielded ((c.in-Some.place, c.in-Some.v), c.in-Some.t) in
    rw count (walked_on c.loop-place.invariant c.requires.0 c.requires.1 c.as_chunks.ensures.front c.as_chunks.ensures.front_len turn (rw c.observation_good-here.ensures))

pub returns : goal.returns
returns c =
    let all = YieldsList-from_zip {s = c.into_iter-place-iterator.result} (YieldsList-from_zip {s = c.into_iter-place-iterator.result.a} (YieldsList-from_slice c.as_chunks.result.0.now (cc)) (YieldsList-from_slice c.args.y.now (cc))) (YieldsList-from_slice c.args.trust.now (cc)) in
    let end = YieldsList-end all c.loop-place.yielded _ c.loop-place.yielded_by _ c.next.new.self c.in-None.is c.next.ensures.steps in
    walked_all c.loop-place.invariant c.requires.0 c.requires.1 (omega (arith, end.1, c.requires.0, c.requires.1, c.as_chunks.ensures.front_len, length-zip (zip c.as_chunks.result.0.now c.args.y.now) c.args.trust.now, length-zip c.as_chunks.result.0.now c.args.y.now))
