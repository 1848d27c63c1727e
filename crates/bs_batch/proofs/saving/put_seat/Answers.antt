use Rattle.std.proofs.Common.{arith}
use Rattle.bs_batch.proofs.Saved.{seat_written}
use Rattle.bs_batch.proofs.saving.put_seat.Goals as goal

pub returns : goal.returns
returns c = seat_written c.args.number c.args.at c.put.result _ _ c.args.seat.now c.args.into.now c.put.new.into c.put.ensures (omega arith) (omega arith)
