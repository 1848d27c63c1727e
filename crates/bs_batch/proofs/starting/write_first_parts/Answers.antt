use Rattle.bs_batch.proofs.Started.{three_written}
use Rattle.bs_batch.proofs.starting.write_first_parts.Goals as goal

pub returns-clause-body : goal.returns-clause-body
returns-clause-body c _ = three_written c.args.cell c.args.room.now c.if-room-lt3.false
