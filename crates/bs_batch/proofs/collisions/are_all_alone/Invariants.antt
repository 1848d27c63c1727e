use Rattle.std.proofs.Common.{◌≡◌, ℕ, ◌<◌, None, length}
use Rattle.bs_board.specs.declared.boards.board.Board.{Board}
use Rattle.bs_rules.specs.Collision.{collision_verdict}
use Rattle.bs_batch.specs.Shown.{HasRoom, ShowsSeats}
use Rattle.bs_batch.proofs.collisions.are_all_alone.Given as goal

-- the seats so far collide with nothing
abbrev pub invariant-loop-seat : goal.invariant-loop-seat
invariant-loop-seat l =
    (b : Board) → ShowsSeats l.head l.plane l.bodies b → HasRoom 0 b → (seat : ℕ) → seat < l.seat → seat < length b.snakes → collision_verdict b.snakes seat ≡ None
