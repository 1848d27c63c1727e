use Rattle.std.proofs.Common.{arith, length-set, ◌∙◌}
use Rattle.bs_rules.proofs.Seats.{set_next_seat}
use Rattle.bs_rules.proofs.collision.put_all_out.Goals as goal

pub loop-seat-preserved : goal.loop-seat-preserved
loop-seat-preserved c = (
  length-set _ _ _ ∙ c.loop-seat.invariant.0,
  set_next_seat _ _ _ _ _ _ c.loop-seat.invariant.1 c.seat_mut.ensures.value (omega (arith, c.len-seat-end.ensures)) c.eliminate.ensures,
)
