use Rattle.std.proofs.lemmas.Result.{err_from_is_err_and}
use Rattle.bs_board.proofs.records.KeptRecord.{only_memory, same_first, seats_stand}
use Rattle.bs_board.proofs.records.kept.read_seats.Goals as goal

pub returns-in_err-snakes : goal.returns-in_err-snakes
returns-in_err-snakes c b legal shows =
    let p = err_from_is_err_and c.from_residual.result c.from_residual.ensures.1 in
    let stands = seats_stand b c.args.board.now c.args.from c.args.count c.min-skipped.result c.min.result c.skip_snakes-rest.result.now legal shows c.min-skipped.ensures c.min.ensures c.skip_snakes-rest.ensures in
    rw (p.1, p.2) (only_memory _ _ _ stands c.in_err-snakes.ensures)

pub returns : goal.returns
returns c b legal shows =
    let stands = seats_stand b c.args.board.now c.args.from c.args.count c.min-skipped.result c.min.result c.skip_snakes-rest.result.now legal shows c.min-skipped.ensures c.min.ensures c.skip_snakes-rest.ensures in
    same_first _ _ _ _ _ c.in_ok-snakes.ensures stands
