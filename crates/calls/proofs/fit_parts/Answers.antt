-- `calls::fit_parts`: the parts decoded, and room for rows where 13 is not owed.
use native.Mathlib.Omega.{arith}
use native.Mathlib.Nat.{mul-le-mul}
use Rattle.real.specs.Reals.{zero64, one64}
use Rattle.calls.proofs.Bytes.{take_replicate, decoded, zeros_long}
use Rattle.calls.proofs.Answers.{room_small, offered, parts_is}
use Rattle.calls.proofs.fit_parts.Goals as goal

pub slice_bounds-fitted_bytes-end : goal.slice_bounds-fitted_bytes-end
slice_bounds-fitted_bytes-end c =
    zeros_long _ 5632 zero64 (room_small _ _ _ _ _ c.room_of-room.ensures c.requires.few c.requires.narrow)

pub fitted_bytes-requires : goal.fitted_bytes-requires
fitted_bytes-requires c =
    (c.requires.narrow, offered _ _ _ _ _ c.room_of-room.ensures _ (zeros_long _ 5632 zero64 (room_small _ _ _ _ _ c.room_of-room.ensures c.requires.few c.requires.narrow)))

pub returns : goal.returns
returns c =
    let few = c.requires.few in
    let places = decoded _ _ 1024 zero64 _ (omega (arith, few)) c.decode.ensures in
    let predictors = decoded _ _ 3584 zero64 _ (mul-le-mul few c.requires.narrow) c.decode-2.ensures in
    let responses = decoded _ _ 512 zero64 _ few c.decode-3.ensures in
    let rows = take_replicate _ 5632 zero64 (room_small _ _ _ _ _ c.room_of-room.ensures few c.requires.narrow) in
    parts_is _ _ _ _ _ _ _ _ _ _ _ _ _ _ places predictors responses (take_replicate _ 512 one64 few) rows c.room_of-room.ensures c.fitted_bytes.ensures
