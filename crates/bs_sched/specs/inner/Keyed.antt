-- What private contracts add to specs/Keyed.
use Rattle.std.specs.Prelude.{◌≡◌, ℕ, ◌≤◌, true, List, length, Option, Some}
use Rattle.bs_board.specs.declared.commands.command.Command.{Command}
use Rattle.bs_counter.specs.Keys.{Key, AreFirstKeys, TallyId}
use Rattle.bs_game.specs.declared.view.View.{View}
use Rattle.bs_fiber.specs.Work.{goes, parts_of, snakes_in}
use Rattle.bs_sched.specs.Lane.{Lane, lane_view, lane_command}

-- all keys of the tally with that name, in part order; the tally has n parts
pub record AreKeysOf (tally : Option TallyId) (n : ℕ) (keys : List Key) : Type 0 where
  pub id : TallyId
  pub named : tally ≡ Some id
  pub all : AreFirstKeys n n id keys

-- one key for each part, if the command is an accepted move; never more than four
pub record AreKeysFor (view : View) (command : Command) (tally : Option TallyId) (keys : List Key) : Type 0 where
  pub few : length keys ≤ 4
  pub each : goes view command ≡ true → AreKeysOf tally (parts_of (length (snakes_in view.last))) keys

abbrev pub HasKeys : Lane → Option TallyId → List Key → Type 0
HasKeys x tally keys = AreKeysFor (lane_view x) (lane_command x) tally keys
