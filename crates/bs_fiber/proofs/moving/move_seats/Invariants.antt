use Rattle.std.proofs.Common.{◌≡◌}
use Rattle.arrayvec.specs.ArrayVec.{array_vec_len}
use Rattle.bs_board.specs.declared.boards.board.Board.{Board}
use Rattle.bs_board.specs.boards.Legal.{IsLegal}
use Rattle.bs_board.specs.records.Record.{record_of}
use Rattle.bs_fiber.specs.Work.{moves_in}
use Rattle.bs_fiber.proofs.MovedSeats.{AreMoved}
use Rattle.bs_fiber.proofs.moving.move_seats.Given as goal

-- the seats moved so far
abbrev pub invariant-loop : goal.invariant-loop
invariant-loop g l =
    (array_vec_len l.pieces ≡ l.counter)
    × ((b : Board) → IsLegal b → l.last ≡ record_of b → AreMoved b (moves_in l.command) l.part l.counter l.left l.pieces.items l.fn.owned l.owned)
