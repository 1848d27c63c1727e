-- Each step of a chain that makes a command.
use Rattle.std.proofs.Common.{◌∙◌, ◌||◌, ap, ap₂}
use Rattle.clap.specs.Words.{AddsArg, AddsSubcommand, App, Rule, with_rule, with_subcommand}
use Rattle.clap.specs.declared.builder.arg.Arg.{Arg}
use Rattle.clap.specs.declared.builder.command.Command.{Command}
use Rattle.arena.specs.inner.Words.{IsArgOf, IsCommandOf}

pub adds_arg : (old new : Command) (arg : Arg) (app : App) (rule : Rule) → IsCommandOf app old → IsArgOf rule arg → AddsArg old arg new
    → IsCommandOf (with_rule app rule) new
adds_arg old new arg app rule command is adds = record {
  made = adds.shape is.local ∙ ap₂ with_rule command.made is.made;
  local = adds.globals ∙ ap₂ (λ a b. a || b) command.local is.local;
}

pub adds_subcommand : (old new sub : Command) (app below : App) → IsCommandOf app old → IsCommandOf below sub → AddsSubcommand old sub new
    → IsCommandOf (with_subcommand app below.top) new
adds_subcommand old new sub app below command is adds = record {
  made = adds.shape is.local ∙ ap₂ with_subcommand command.made (ap (λ (a : App). a.top) is.made);
  local = adds.globals ∙ ap₂ (λ a b. a || b) command.local is.local;
}
