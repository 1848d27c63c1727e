use Rattle.std.proofs.Common.{◌≡◌, false, true, ◌++◌}
use Rattle.std.specs.List.{list_all}
use Rattle.bs_json.specs.inner.Maps.{cells_text, is_near_cell}
use Rattle.bs_json.specs.inner.Compact.{are_some}
use Rattle.bs_json.proofs.maps.split_cells.Given as goal

-- the text before the remaining part is that of the cells found
abbrev pub invariant-loop-turn : goal.invariant-loop-turn
invariant-loop-turn l = (l.fn.line ≡ cells_text false l.cells ++ l.left) × (list_all is_near_cell l.cells ≡ true) × (l.later ≡ are_some l.cells)
