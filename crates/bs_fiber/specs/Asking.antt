-- The data of a command that its Begin needs.
use Rattle.std.specs.Prelude.{ℕ, Option, Some, None}
use Rattle.bs_board.specs.declared.commands.command.Command.{Command}
use Rattle.bs_board.specs.declared.commands.command.Command.TheVariants as command

-- the turn whose board a command names
abbrev pub asked_turn : Command → Option ℕ
asked_turn (command.New setup) = None
asked_turn (command.Move orders) = None
asked_turn command.Show = None
asked_turn (command.Turn at) = Some at
asked_turn command.Free = None
asked_turn command.End = None
asked_turn command.Bad = None
