use Rattle.std.proofs.Common.{◌∙◌}
use Rattle.bs_board.proofs.records.KeptRecord.{ground_is_found}
use Rattle.bs_board.proofs.records.record.Record.without_snakes.Goals as goal

pub returns : goal.returns
returns c b legal is =
    ground_is_found c.as_slice.result.now b c.read_without_snakes.result c.found.result legal (c.as_slice.ensures.value ∙ is) c.read_without_snakes.ensures c.found.ensures
