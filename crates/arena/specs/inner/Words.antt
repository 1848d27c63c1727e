-- What private contracts add to specs/Words.
use Rattle.std.specs.Prelude.{◌≡◌, false}
use Rattle.clap.specs.Words.{App, app_of, rule_of, Rule}
use Rattle.clap.specs.declared.builder.arg.Arg.{Arg}
use Rattle.clap.specs.declared.builder.command.Command.{Command}
use Rattle.clap.specs.declared.builder.command.Command.TheViews.{out-Command}

-- clap's argument is this one
pub record IsArgOf (rule : Rule) (arg : Arg) : Type 0 where
  pub made : rule_of arg ≡ rule
  pub local : arg.global ≡ false

-- clap's command is this one
pub record IsCommandOf (app : App) (command : Command) : Type 0 where
  pub made : app_of command ≡ app
  pub local : (out-Command command).has_globals ≡ false
