use Rattle.std.proofs.Common.{arith}
use Rattle.bs_board.proofs.records.LayoutBytes.{id_is_cut, some_snake}
use Rattle.bs_board.proofs.records.layout.split_id.Goals as goal

pub returns-in-empty : goal.returns-in-empty
returns-in-empty c s rest is = let some = some_snake s rest c.args.bytes.now is in absurd (let none = c.in-empty.len_below in omega arith)

pub returns-in-len1-up : goal.returns-in-len1-up
returns-in-len1-up c s rest is =
    id_is_cut s rest c.args.bytes.now c.cut.result.0.now c.cut.result.1.now c.from.result is c.from.ensures c.cut.ensures.front c.cut.ensures.rest
