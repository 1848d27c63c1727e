use Rattle.bs_board.proofs.records.KeptRecord.{fault_of, value_of}
use Rattle.bs_board.proofs.records.record.Record.snakes.Goals as goal

pub found-requires : goal.found-requires
found-requires c =
    let legal = c.parts.ensures.legal in
    fault_of c.read_seats.result _ _ (c.read_seats.ensures legal.board legal.legal (c.parts.ensures.value legal.board legal.is))

pub returns : goal.returns
returns c b legal is = value_of c.read_seats.result c.found.result _ _ (c.read_seats.ensures b legal (c.parts.ensures.value b is)) c.found.ensures
