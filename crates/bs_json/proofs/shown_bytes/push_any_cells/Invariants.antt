use Rattle.std.proofs.Common.{◌≡◌, length, map}
use Rattle.serde_json.specs.View.{items_of}
use Rattle.serde_json.specs.Written.{compact_text}
use Rattle.bs_json.specs.Boards.{cell_data, cells_data}
use Rattle.bs_json.specs.inner.BoardText.{cells_of, list_rest}
use Rattle.bs_json.specs.Text.{put}
use Rattle.bs_json.proofs.shown_bytes.push_any_cells.Given as goal

-- the text so far, and that of the remaining cells
abbrev pub invariant-loop-left : goal.invariant-loop-left
invariant-loop-left l = put l.text (list_rest l.later (items_of (map cell_data (cells_of l.raised l.left)))) ≡ put l.fn.text (compact_text (cells_data (cells_of l.raised l.cells)))

abbrev pub decreases-loop-left : goal.decreases-loop-left
decreases-loop-left l = length l.left
