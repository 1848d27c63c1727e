-- Commands without contents.
use Rattle.std.specs.Prelude.{Bool, true, false}
use Rattle.bs_board.specs.declared.commands.command.Command.{Command}
use Rattle.bs_board.specs.declared.commands.command.Command.TheVariants as command

-- it has neither a setup nor moves
abbrev pub is_bare : Command → Bool
is_bare (command.New new) = false
is_bare (command.Move orders) = false
is_bare command.Show = true
is_bare (command.Turn at) = true
is_bare command.Free = true
is_bare command.End = true
is_bare command.Bad = true
