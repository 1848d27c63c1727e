-- The outcome of each job.
use Rattle.std.specs.Prelude.{◌≡◌, ℕ, ◌+◌, ◌*◌, ◌/◌, Bool, ◌&&◌, List, [], length, take, drop, map, Option, Some, None, is_none, if◌then◌else◌}
use Rattle.std.specs.List.{range_with_len}
use Rattle.bs_board.specs.declared.boards.board.Board.{Board}
use Rattle.bs_board.specs.boards.Wrap.{wrap_of}
use Rattle.bs_board.specs.declared.commands.command.Command.{Command}
use Rattle.bs_board.specs.declared.commands.command.Command.TheVariants as command
use Rattle.bs_board.specs.declared.boards.point.Direction.{Direction}
use Rattle.bs_board.specs.declared.boards.snake.Snake.{Snake}
use Rattle.bs_rules.specs.Motion.{moved, given_to}
use Rattle.bs_game.specs.declared.reply.Effect.{Effect}
use Rattle.bs_game.specs.declared.reply.Effect.TheVariants as effect
use Rattle.bs_game.specs.declared.view.View.{View}
use Rattle.bs_game.specs.Reasons.{is_move, first_reason}
use Rattle.bs_game.specs.View.{answer_of}
use Rattle.bs_fiber.specs.declared.input.Input.{Input}
use Rattle.bs_fiber.specs.declared.job.JobKind.{JobKind}
use Rattle.bs_fiber.specs.declared.job.JobKind.TheVariants.{Begin, Part, Join}
use Rattle.bs_fiber.specs.declared.out.Out.{Out}
use Rattle.bs_fiber.specs.declared.out.Out.TheVariants.{Goes, Answered, Moved, Joined}
use Rattle.bs_fiber.specs.declared.piece.Piece.{Piece}
use Rattle.bs_fiber.specs.Frames.{frame_of, pieces_from}
use Rattle.bs_fiber.specs.Seeing.{IsSeen}

-- a move that no reason refuses before the new board is known
abbrev pub goes : View → Command → Bool
goes view command = is_move command && is_none (first_reason view command)

abbrev pub begun : View → Command → Out
begun view command = if goes view command then Goes else Answered (answer_of view command)

-- the number of parts: each has two seats, the last one has one if the number of seats is odd
abbrev pub parts_of : ℕ → ℕ
parts_of seats = (seats + 1) / 2

abbrev pub seats_of : ℕ → List Snake → List Snake
seats_of part snakes = take 2 (drop (2 * part) snakes)

abbrev pub snakes_in : Option Board → List Snake
snakes_in None = []
snakes_in (Some board) = board.snakes

-- the sides of a wrapped board, which each step is taken modulo
abbrev pub wrap_in : Option Board → Option (ℕ × ℕ)
wrap_in None = None
wrap_in (Some board) = wrap_of board

-- the directions that a move gives, by id
abbrev pub moves_in : Command → List (List ℕ × Direction)
moves_in (command.Move orders) = orders.moves
moves_in _ = []

-- the snakes of the part, moved one step
abbrev pub moved_part : ℕ → View → Command → List Snake
moved_part part view command = map (λ s. moved (wrap_in view.last) (given_to (moves_in command) s.id) s) (seats_of part (snakes_in view.last))

-- the moved snakes of each part, from part 0
abbrev pub moved_parts : View → Command → List (List Snake)
moved_parts view command = map (λ part. moved_part part view command) (range_with_len 0 (parts_of (length (snakes_in view.last))))

-- where an added record lies: after what part 0 wrote into its block
abbrev pub piece_added : Effect → List Snake → Option Piece
piece_added effect.Keep first = None
piece_added (effect.Add bytes) first = Some (record { at = length (frame_of first); len = length bytes })
piece_added effect.Trim first = None
piece_added effect.Drop first = None

-- the record that an answer adds
abbrev pub added_by : Effect → Option (List ℕ)
added_by effect.Keep = None
added_by (effect.Add bytes) = Some bytes
added_by effect.Trim = None
added_by effect.Drop = None

-- the record that a Join adds
abbrev pub added_seen : JobKind → View → Command → Option (List ℕ)
added_seen Begin view command = None
added_seen Part view command = None
added_seen Join view command = added_by (answer_of view command).effect

abbrev pub out_seen : JobKind → ℕ → View → Command → Out
out_seen Begin part view command = begun view command
out_seen Part part view command = Moved (pieces_from 0 (moved_part part view command))
out_seen Join part view command = Joined (answer_of view command) (piece_added (answer_of view command).effect (moved_part 0 view command))

-- the outcome of the job in the view whose boards have the records of the input
abbrev pub IsWorked : Input → Out → Type 0
IsWorked input out = (view : View) → IsSeen view input → out ≡ out_seen input.job.kind input.job.part view input.command
