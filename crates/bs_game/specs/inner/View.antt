-- What private contracts add to specs/View.
use Rattle.std.specs.Prelude.{Some, if◌then◌else◌}
use Rattle.bs_board.specs.declared.boards.board.Board.{Board}
use Rattle.bs_board.specs.declared.commands.command.Word.{Word}
use Rattle.bs_board.specs.declared.commands.command.Word.TheVariants as word
use Rattle.bs_board.specs.declared.commands.reply.Reply.{Reply}
use Rattle.bs_board.specs.declared.commands.reply.Reply.TheVariants.{Refused}
use Rattle.bs_board.specs.declared.commands.reply.Refusal.TheVariants as refusal
use Rattle.bs_game.specs.declared.view.View.{View}
use Rattle.bs_game.specs.Reasons.{is_over_quota}
use Rattle.bs_game.specs.View.{shown_as_new}

-- the reply with a new board, or the refusal if the quota has no room for its record
abbrev pub shown_within_quota : View → Word → Board → Reply
shown_within_quota view word board =
    if is_over_quota view (Some board) then Refused refusal.Quota else shown_as_new view word board
