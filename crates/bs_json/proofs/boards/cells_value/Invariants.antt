use Rattle.std.proofs.Common.{◌≡◌, map, take}
use Rattle.serde_json.specs.View.{view}
use Rattle.bs_json.specs.Boards.{cell_data}
use Rattle.bs_json.proofs.boards.cells_value.Given as goal

abbrev pub invariant-loop-cell : goal.invariant-loop-cell
invariant-loop-cell l = map view l.values.items ≡ map cell_data (take l.cell-index l.cells)
