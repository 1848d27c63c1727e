-- The commands of a lane.
use Rattle.std.specs.Prelude.{List, ◌++◌}
use Rattle.bs_board.specs.declared.commands.command.Command.{Command}
use Rattle.bs_sched.specs.Lane.{Lane}

-- all commands that were queued for the lane, in order
abbrev pub commands_of : Lane → List Command
commands_of x = x.taken ++ x.waiting
