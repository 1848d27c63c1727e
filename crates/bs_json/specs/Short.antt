-- The commands that have neither a setup nor moves.
use Rattle.bs_board.specs.declared.commands.command.Command.{Command}
use Rattle.bs_board.specs.declared.commands.command.Command.TheVariants as command
use Rattle.bs_json.specs.declared.short.ShortCommand.{ShortCommand}
use Rattle.bs_json.specs.declared.short.ShortCommand.TheVariants as short

abbrev pub command_of_short : ShortCommand → Command
command_of_short short.Show = command.Show
command_of_short (short.Turn at) = command.Turn at
command_of_short short.Free = command.Free
command_of_short short.End = command.End
