-- Why a command is refused.
use Rattle.std.specs.Prelude.{◌+◌, Bool, true, false, not, ◌&&◌, List, [], ◌∷◌, ◌++◌, Option, Some, None, is_some, is_none, option_map, nat_le, nat_lt}
use Rattle.std.specs.List.{find}
use Rattle.bs_board.specs.declared.boards.board.Board.{Board}
use Rattle.bs_board.specs.declared.commands.command.Command.{Command}
use Rattle.bs_board.specs.declared.commands.command.Command.TheVariants as command
use Rattle.bs_board.specs.declared.commands.reply.Refusal.{Refusal}
use Rattle.bs_board.specs.declared.commands.reply.Refusal.TheVariants as refusal
use Rattle.bs_board.specs.declared.limits.TheConstants.{LAST_TURN}
use Rattle.bs_board.specs.boards.Over.{is_over}
use Rattle.bs_modes.specs.FirstBoard.{first_board}
use Rattle.bs_rules.specs.Turn.{turn_of}
use Rattle.bs_game.specs.declared.view.View.{View}
use Rattle.bs_game.specs.Game.{board_charge}

abbrev pub is_bad : Command → Bool
is_bad command.Bad = true
is_bad _ = false

abbrev pub is_new : Command → Bool
is_new (command.New setup) = true
is_new _ = false

abbrev pub is_move : Command → Bool
is_move (command.Move orders) = true
is_move _ = false

abbrev pub is_turn : Command → Bool
is_turn (command.Turn at) = true
is_turn _ = false

abbrev pub is_board_over : Option Board → Bool
is_board_over None = false
is_board_over (Some board) = is_over board

-- the board has the highest turn number
abbrev pub is_last_turn : Option Board → Bool
is_last_turn None = false
is_last_turn (Some board) = nat_le LAST_TURN board.turn

-- the board that a command would add to the game
abbrev pub new_board : View → Command → Option Board
new_board view (command.New setup) = Some (first_board setup)
new_board view (command.Move orders) = option_map (λ last. turn_of last orders) view.last
new_board view _ = None

-- whether the record of one more board would exceed the quota
abbrev pub is_over_quota : View → Option Board → Bool
is_over_quota view None = false
is_over_quota view (Some board) = nat_lt view.quota (view.charge + board_charge board)

-- whether the reason refuses the command
abbrev pub speaks_against : View → Command → Refusal → Bool
speaks_against view command refusal.Unknown = is_bad command
speaks_against view command refusal.NoGame = not (is_new command) && is_none view.last
speaks_against view command refusal.Running = is_new command && is_some view.last
speaks_against view command refusal.Over = is_move command && is_board_over view.last
speaks_against view command refusal.Limit = is_move command && is_last_turn view.last
speaks_against view command refusal.NoRecord = is_turn command && is_none view.asked
speaks_against view command refusal.Quota = is_over_quota view (new_board view command)

-- the reasons that are judged before the new board is known, in order
abbrev pub early_refusals : List Refusal
early_refusals =
    refusal.Unknown ∷ refusal.NoGame ∷ refusal.Running ∷ refusal.Over ∷ refusal.Limit ∷ refusal.NoRecord ∷ []

-- all reasons, in order; the quota comes last
abbrev pub refusals_in_order : List Refusal
refusals_in_order = early_refusals ++ refusal.Quota ∷ []

unfoldable pub first_reason : View → Command → Option Refusal
first_reason view command = find (speaks_against view command) early_refusals

-- why the command is refused, if it is
unfoldable pub reason_against : View → Command → Option Refusal
reason_against view command = find (speaks_against view command) refusals_in_order
