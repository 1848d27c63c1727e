use Rattle.std.proofs.Common.{arith}
use Rattle.bs_batch.proofs.MovedSeat.{moves}
use Rattle.bs_batch.proofs.turns.move_seat.Goals as goal

pub returns : goal.returns
returns c others food s sides shows room on =
    moves c.args.settings.now c.args.given others food c.args.seat.now c.args.room.now c.args.plane.now s sides shows room on c.min-parts.result
    c.in_lanes-lanes.result c.from.result c.ends_of-next.result.0 c.ends_of-next.result.1 c.saturating_sub-seat.result c.push_head.new.body
    c.remove_part.new.plane c.add_part.new.plane c.from.ensures c.min-parts.ensures (omega (arith, c.in_lanes-lanes.ensures.least, c.from.ensures, c.min-parts.ensures))
    c.in_lanes-lanes.ensures.most c.ends_of-next.ensures c.push_head.ensures c.remove_part.ensures c.add_part.ensures c.saturating_sub-seat.ensures
