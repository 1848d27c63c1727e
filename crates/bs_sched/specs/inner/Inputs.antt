-- What private contracts add to specs/Inputs.
use Rattle.std.specs.Prelude.{ℕ, length, Option, Some, None}
use Rattle.bs_board.specs.declared.boards.board.Board.{Board}
use Rattle.bs_game.specs.Game.{Game, board_of_turn}
use Rattle.bs_fiber.specs.declared.input.Input.{Input}
use Rattle.bs_fiber.specs.declared.job.JobName.{JobName}
use Rattle.bs_sched.specs.Lane.{Lane, lane_command}
use Rattle.bs_sched.specs.Inputs.{input_for}

-- the board of the turn that the command names, if it names one
abbrev pub board_asked : Option ℕ → Game → Option Board
board_asked None game = None
board_asked (Some at) game = board_of_turn at game

-- for the command in progress
abbrev pub current_input : Lane → ℕ → JobName → Input
current_input x worker job = input_for x (lane_command x) (length x.taken) worker job
