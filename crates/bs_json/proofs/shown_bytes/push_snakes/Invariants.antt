use Rattle.std.proofs.Common.{◌≡◌, drop, map}
use Rattle.std.specs.Prelude.{flat_map}
use Rattle.serde_json.specs.View.{items_of}
use Rattle.serde_json.specs.Written.{compact_text, items_text}
use Rattle.bs_board.specs.declared.boards.board.Board.{Board}
use Rattle.bs_board.specs.records.Layout.{IsBoardBytes}
use Rattle.bs_board.specs.records.Record.{snake_record}
use Rattle.bs_board.specs.inner.Writing.{IsWritableBoard}
use Rattle.bs_json.specs.Boards.{snake_data, snakes_data}
use Rattle.bs_json.specs.Text.{put}
use Rattle.bs_json.proofs.shown_bytes.push_snakes.Given as goal

-- the records of the remaining snakes; the text so far, and theirs
abbrev pub invariant-loop : goal.invariant-loop
invariant-loop l =
    (b : Board) → IsWritableBoard b → IsBoardBytes b l.board
    → (l.left ≡ flat_map snake_record (drop l.counter b.snakes))
    × (put l.text (items_text l.later (items_of (map (snake_data b.snakes) (drop l.counter b.snakes)))) ≡ put l.fn.text (compact_text (snakes_data b.snakes)))
