use Rattle.std.proofs.Common.{◌∙◌}
use Rattle.bs_food.proofs.Rows.{unmarked_row_more}
use Rattle.bs_food.proofs.free.push_row.Goals as goal

pub loop-column-preserved : goal.loop-column-preserved
loop-column-preserved c =
    c.in_ok-push_unmarked.ensures
    ∙ unmarked_row_more c.args.width c.loop-column.column c.args.row c.args.taken.now c.args.free.now.items _ c.loop-column.invariant
