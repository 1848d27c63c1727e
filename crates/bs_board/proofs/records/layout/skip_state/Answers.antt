use Rattle.std.proofs.Common.{arith, ◌∙◌}
use Rattle.bs_board.proofs.records.LayoutBytes.{cells_skipped}
use Rattle.bs_board.proofs.records.layout.skip_state.Goals as goal

pub returns-then-cells-size : goal.returns-then-cells-size
returns-then-cells-size c s rest is =
    let cells = cells_skipped s rest c.args.state.now c.from-size.result is (c.from-size.ensures ∙ c.from_two_bytes.ensures) in
    let few = c.if-cells-size.true in absurd (omega (arith, cells.0))

pub returns-else-cells-size : goal.returns-else-cells-size
returns-else-cells-size c s rest is =
    let cells = cells_skipped s rest c.args.state.now c.from-size.result is (c.from-size.ensures ∙ c.from_two_bytes.ensures) in
    c.split_at.ensures.back ∙ cells.1
