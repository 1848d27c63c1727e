use Rattle.std.proofs.Common.{◌≡◌, drop}
use Rattle.std.specs.List.{flat_map}
use Rattle.bs_board.specs.declared.boards.board.Board.{Board}
use Rattle.bs_board.specs.boards.Legal.{IsLegal}
use Rattle.bs_board.specs.records.Layout.{IsBoardBytes}
use Rattle.bs_board.specs.records.Record.{snake_record}
use Rattle.bs_plane.specs.Onward.{MovesSnakes, ShowsSnakes}
use Rattle.bs_plane.proofs.motion.move_snakes.Given as goal

-- the snakes so far are moved, and the records of the others are left
abbrev pub invariant-loop : goal.invariant-loop
invariant-loop l =
    (b : Board) → IsLegal b → IsBoardBytes b l.board → ShowsSnakes b b.snakes l.fn.plane
    → MovesSnakes l.counter b l.moves l.plane l.fn.into.items l.into.items l.fn.heads.items l.heads.items × (l.left ≡ flat_map snake_record (drop l.counter b.snakes))
