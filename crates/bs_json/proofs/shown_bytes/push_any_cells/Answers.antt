use Rattle.std.proofs.Common.{refl}
use Rattle.bs_json.proofs.ShownCells.{one_cell}
use Rattle.bs_json.proofs.shown_bytes.push_any_cells.Goals as goal

pub loop-left-preserved : goal.loop-left-preserved
loop-left-preserved c = one_cell c.args.raised c.loop-left.left.now _ _ _ c.loop-left.later _ _ _ c.in-len2-up.len_at_least c.byte_before.ensures refl refl c.push_cell.ensures c.loop-left.invariant
