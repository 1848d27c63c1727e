use Rattle.std.proofs.Common.{◌∙◌, ap}
use Rattle.bs_json.specs.inner.BoardText.{hazard_pieces, hazards_of}
use Rattle.bs_json.specs.Text.{put}
use Rattle.bs_json.proofs.Puts.{next}
use Rattle.bs_json.proofs.shown_bytes.push_hazards.Goals as goal

pub returns-then-board : goal.returns-then-board
returns-then-board c =
    rw (c.if-board.true)
    (next _ _ _ _ _ c.push.ensures (next _ _ _ _ _ c.push_small.ensures (next _ _ _ _ _ c.push-then-board.ensures c.push_cells.ensures)))
