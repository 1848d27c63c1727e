-- The reply to one command of a game, and the game after it.
use Rattle.std.specs.Prelude.{◌≡◌, ℕ, ◌≤◌, true, [], ◌∷◌, ◌++◌, Option, None, length}
use Rattle.bs_board.specs.declared.boards.board.Board.{Board}
use Rattle.bs_board.specs.declared.commands.command.Command.{Command}
use Rattle.bs_board.specs.declared.commands.command.Command.TheVariants as command
use Rattle.bs_board.specs.declared.commands.command.Word.{Word}
use Rattle.bs_board.specs.declared.commands.command.Word.TheVariants as word
use Rattle.bs_board.specs.declared.commands.reply.Reply.{Reply}
use Rattle.bs_board.specs.declared.commands.reply.Reply.TheVariants.{Shown, Plain, Refused}
use Rattle.bs_board.specs.declared.limits.TheConstants.{LAST_TURN}
use Rattle.bs_board.specs.commands.Orders.{IsFitOrders}
use Rattle.bs_board.specs.commands.Setup.{is_fit_setup}
use Rattle.bs_game.specs.declared.view.View.{View}
use Rattle.bs_game.specs.Game.{Game, last_board, newest, board_of_turn, game_charge}
use Rattle.bs_game.specs.View.{reply_to}

-- the contents of a command are within the limits, as the type ensures
abbrev pub Fits : Command → Type 0
Fits (command.New setup) = is_fit_setup setup ≡ true
Fits (command.Move orders) = IsFitOrders orders
Fits command.Show = Unit {0}
Fits (command.Turn at) = at ≤ LAST_TURN
Fits command.Free = Unit {0}
Fits command.End = Unit {0}
Fits command.Bad = Unit {0}

-- the kept board of the turn that a command names
abbrev pub asked_board : Command → Game → Option Board
asked_board (command.Turn at) game = board_of_turn at game
asked_board _ game = None

-- the view of a game of that quota that the answer to that command reads
abbrev pub view_of_game : ℕ → Game → Command → View
view_of_game quota game command = record {
  quota = quota;
  charge = game_charge game;
  kept = length game;
  last = last_board game;
  asked = asked_board command game;
}

-- a board that a reply to `new` or `move` shows is added
abbrev pub after_shown : Word → Board → Game → Game
after_shown word.New board game = game ++ board ∷ []
after_shown word.Move board game = game ++ board ∷ []
after_shown word.Show board game = game
after_shown word.Turn board game = game
after_shown word.Free board game = game
after_shown word.End board game = game

-- `free` drops all boards but the last, `end` all of them
abbrev pub after_plain : Word → Game → Game
after_plain word.New game = game
after_plain word.Move game = game
after_plain word.Show game = game
after_plain word.Turn game = game
after_plain word.Free game = newest game
after_plain word.End game = []

-- the game after a command, determined by the reply
abbrev pub after_reply : Reply → Game → Game
after_reply (Shown word board charge) game = after_shown word board game
after_reply (Plain word charge) game = after_plain word game
after_reply (Refused reason) game = game

pub record Outcome : Type 0 where
  pub reply : Reply
  pub game : Game

abbrev pub outcome_of : Reply → Game → Outcome
outcome_of reply game = record { reply = reply; game = after_reply reply game }

unfoldable pub answer_to : ℕ → Game → Command → Outcome
answer_to quota game command = outcome_of (reply_to (view_of_game quota game command) command) game
