-- A stay of a live host.
use Rattle.std.specs.Prelude.{ℕ, ◌+◌, List, []}
use Rattle.bs_board.specs.declared.commands.command.Command.{Command}
use Rattle.bs_board.specs.plans.Plan.{GameRow}
use Rattle.bs_game.specs.Answer.{answer_to}
use Rattle.bs_game.specs.Game.{Game, game_charge, last_board}
use Rattle.bs_json.specs.Replies.{final_line_of, reply_line_of}

-- its row, its kept boards, the number of its replies, and the number of blocks of its pool
pub record Stay : Type 0 where
  pub row : GameRow
  pub game : Game
  pub answered : ℕ
  pub blocks : ℕ

abbrev pub opened_stay : GameRow → ℕ → Stay
opened_stay row blocks = record { row = row; game = []; answered = 0; blocks = blocks }

-- after a command, as the definition of a game answers it
abbrev pub stay_after : Command → Stay → Stay
stay_after command stay = record stay { game = (answer_to stay.row.quota stay.game command).game; answered = stay.answered + 1 }

-- the line of the reply to a command
abbrev pub next_line : Command → Stay → List ℕ
next_line command stay = reply_line_of stay.row.game (stay.answered + 1) (answer_to stay.row.quota stay.game command).reply

abbrev pub final_line : Stay → List ℕ
final_line stay = final_line_of stay.row.game (last_board stay.game) (game_charge stay.game)
