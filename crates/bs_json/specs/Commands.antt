-- The command of an object.
use Rattle.std.specs.Prelude.{ℕ, codes, List, Option, Some, None, option_map, if◌then◌else◌}
use Rattle.serde_json.specs.Data.{Data}
use Rattle.bs_board.specs.declared.commands.command.Command.{Command}
use Rattle.bs_board.specs.declared.commands.command.Command.TheVariants as command
use Rattle.bs_board.specs.declared.commands.command.Word.{Word}
use Rattle.bs_board.specs.declared.commands.command.Word.TheVariants as word
use Rattle.bs_board.specs.declared.plans.version.Version.{Version}
use Rattle.bs_board.specs.Texts.{is_same_text}
use Rattle.bs_board.specs.declared.limits.TheConstants.{LAST_TURN}
use Rattle.bs_json.specs.Moves.{orders_from}
use Rattle.bs_json.specs.Setups.{setup_from}
use Rattle.bs_json.specs.Values.{◌>>=◌, number_at, text_at}

abbrev pub word_named : List ℕ → Option Word
word_named text =
    if is_same_text text (codes "new") then Some word.New
    else (if is_same_text text (codes "move") then Some word.Move
    else (if is_same_text text (codes "show") then Some word.Show
    else (if is_same_text text (codes "turn") then Some word.Turn
    else (if is_same_text text (codes "free") then Some word.Free
    else (if is_same_text text (codes "end") then Some word.End
    else None)))))

abbrev pub word_at : Data → Option Word
word_at d = text_at (codes "do") d >>= word_named

abbrev pub command_for : Version → Word → Data → Option Command
command_for version word.New d = option_map command.New (setup_from version d)
command_for version word.Move d = option_map command.Move (orders_from version d)
command_for version word.Show d = Some command.Show
command_for version word.Turn d = option_map command.Turn (number_at (codes "at") LAST_TURN d)
command_for version word.Free d = Some command.Free
command_for version word.End d = Some command.End

unfoldable pub command_of : Version → Data → Option Command
command_of version d = do
  word ← word_at d
  command_for version word d
