-- What private contracts add to specs/Work.
use Rattle.std.specs.Prelude.{ℕ, Option, Some, None}
use Rattle.bs_board.specs.declared.boards.board.Board.{Board}
use Rattle.bs_board.specs.declared.commands.reply.Refusal.{Refusal}
use Rattle.bs_board.specs.declared.commands.command.Word.{Word}
use Rattle.bs_board.specs.declared.commands.reply.Reply.TheVariants.{Refused, Shown}
use Rattle.bs_game.specs.declared.reply.Effect.TheVariants as effect
use Rattle.bs_game.specs.View.{answer_with}
use Rattle.bs_fiber.specs.declared.out.Out.{Out}
use Rattle.bs_fiber.specs.declared.out.Out.TheVariants.{Goes, Answered}

-- `begun` of a move, by the reason that refuses it
abbrev pub move_begun : Option Refusal → Out
move_begun None = Goes
move_begun (Some reason) = Answered (answer_with (Refused reason))

-- a board that is shown
abbrev pub shown : Word → Board → ℕ → Out
shown word board charge = Answered (record { reply = Shown word board charge; effect = effect.Keep })
