use Rattle.std.proofs.Common.{take}
use Rattle.std.specs.List.{flat_map}
use Rattle.bs_board.specs.records.Record.{cell_bytes}
use Rattle.bs_board.specs.inner.Writing.{Puts}
use Rattle.bs_board.proofs.records.encoding.put_cells.Given as goal

-- the cells written so far
abbrev pub invariant-loop-cell : goal.invariant-loop-cell
invariant-loop-cell l = Puts l.at (flat_map (cell_bytes l.raised) (take l.cell-index l.cells)) l.fn.into l.into l.next
