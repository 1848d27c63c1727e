-- The reply to a command, and its effect on the records, from a view of the game.
use Rattle.std.specs.Prelude.{◌+◌, ◌≤◌, Option, Some, None, IfSome}
use Rattle.bs_board.specs.declared.boards.board.Board.{Board}
use Rattle.bs_board.specs.declared.commands.command.Command.{Command}
use Rattle.bs_board.specs.declared.commands.command.Command.TheVariants as command
use Rattle.bs_board.specs.declared.commands.command.Word.{Word}
use Rattle.bs_board.specs.declared.commands.command.Word.TheVariants as word
use Rattle.bs_board.specs.declared.commands.reply.Reply.{Reply}
use Rattle.bs_board.specs.declared.commands.reply.Reply.TheVariants.{Shown, Plain, Refused}
use Rattle.bs_board.specs.declared.commands.reply.Refusal.{Refusal}
use Rattle.bs_board.specs.declared.commands.reply.Refusal.TheVariants as refusal
use Rattle.bs_board.specs.declared.limits.TheConstants.{MOST_QUOTA}
use Rattle.bs_board.specs.boards.Legal.{IsLegal}
use Rattle.bs_board.specs.records.Record.{record_of}
use Rattle.bs_game.specs.declared.reply.Answer.{Answer}
use Rattle.bs_game.specs.declared.reply.Effect.{Effect}
use Rattle.bs_game.specs.declared.reply.Effect.TheVariants as effect
use Rattle.bs_game.specs.declared.view.View.{View}
use Rattle.bs_game.specs.Game.{board_charge}
use Rattle.bs_game.specs.Reasons.{new_board, reason_against}

-- the reply for a board, if there is one; else the refusal
abbrev pub reply_or_refusal : Refusal → Option Board → (Board → Reply) → Reply
reply_or_refusal reason None reply = Refused reason
reply_or_refusal reason (Some board) reply = reply board

-- a new board is shown with the charge that includes it
abbrev pub shown_as_new : View → Word → Board → Reply
shown_as_new view word board = Shown word board (view.charge + board_charge board)

-- the reply to a command that no reason refuses; its number is the charge after the command
abbrev pub accepted_reply : View → Command → Reply
accepted_reply view (command.New setup) = reply_or_refusal refusal.NoGame (new_board view (command.New setup)) (shown_as_new view word.New)
accepted_reply view (command.Move orders) = reply_or_refusal refusal.NoGame (new_board view (command.Move orders)) (shown_as_new view word.Move)
accepted_reply view command.Show = reply_or_refusal refusal.NoGame view.last (λ last. Shown word.Show last view.charge)
accepted_reply view (command.Turn at) = reply_or_refusal refusal.NoRecord view.asked (λ board. Shown word.Turn board view.charge)
accepted_reply view command.Free = reply_or_refusal refusal.NoGame view.last (λ last. Plain word.Free (board_charge last))
accepted_reply view command.End = Plain word.End 0
accepted_reply view command.Bad = Refused refusal.Unknown

abbrev pub unless_refused : Option Refusal → Reply → Reply
unless_refused (Some reason) reply = Refused reason
unless_refused None reply = reply

unfoldable pub reply_to : View → Command → Reply
reply_to view command = unless_refused (reason_against view command) (accepted_reply view command)

-- a board that a reply to `new` or `move` shows is added
abbrev pub effect_of_shown : Word → Board → Effect
effect_of_shown word.New board = effect.Add (record_of board)
effect_of_shown word.Move board = effect.Add (record_of board)
effect_of_shown word.Show board = effect.Keep
effect_of_shown word.Turn board = effect.Keep
effect_of_shown word.Free board = effect.Keep
effect_of_shown word.End board = effect.Keep

abbrev pub effect_of_plain : Word → Effect
effect_of_plain word.New = effect.Keep
effect_of_plain word.Move = effect.Keep
effect_of_plain word.Show = effect.Keep
effect_of_plain word.Turn = effect.Keep
effect_of_plain word.Free = effect.Trim
effect_of_plain word.End = effect.Drop

-- the effect on the records, determined by the reply; a refusal keeps all
abbrev pub effect_of : Reply → Effect
effect_of (Shown word board charge) = effect_of_shown word board
effect_of (Plain word charge) = effect_of_plain word
effect_of (Refused reason) = effect.Keep

abbrev pub answer_with : Reply → Answer
answer_with reply = record { reply = reply; effect = effect_of reply }

unfoldable pub answer_of : View → Command → Answer
answer_of view command = answer_with (reply_to view command)

-- the view of a game within its quota; no quota is above 16,777,216
pub record IsFitView (view : View) : Type 0 where
  pub legal : IfSome view.last IsLegal
  pub asked : IfSome view.asked IsLegal
  pub within : view.charge ≤ view.quota
  pub small : view.quota ≤ MOST_QUOTA
