-- The invariant of a lane between two events: its replies and its boards are those of the course of
-- its answered commands.
use Rattle.std.specs.Prelude.{◌≡◌, ◌-◌, ◌≤◌, ◌<◌, true, false, if◌then◌else◌, List, length, take, All}
use Rattle.bs_board.specs.declared.limits.TheConstants.{MOST_QUOTA}
use Rattle.bs_board.specs.declared.commands.command.Command.{Command}
use Rattle.bs_game.specs.Alone.{course_of}
use Rattle.bs_game.specs.Answer.{Fits}
use Rattle.bs_game.specs.Game.{IsGame, last_board, game_charge}
use Rattle.bs_fiber.specs.Work.{parts_of, snakes_in}
use Rattle.bs_sched.specs.Lane.{Lane, goes_on, is_idle, is_playing}

-- the commands that have a reply: all that were taken, except the one in progress
abbrev pub answered_commands : Lane → List Command
answered_commands x = if is_idle x.stage then x.taken else take (length x.taken - 1) x.taken

pub record IsOnCourse (x : Lane) : Type 0 where
  pub replies : x.replies ≡ (course_of x.row.quota (answered_commands x)).replies
  pub game : x.game ≡ (course_of x.row.quota (answered_commands x)).game

-- a move whose parts are in progress is an accepted one, and has as many parts as its board needs
pub record IsMove (x : Lane) : Type 0 where
  pub goes : goes_on x ≡ true
  pub parts : length x.parts ≡ parts_of (length (snakes_in (last_board x.game)))

pub record IsRight (x : Lane) : Type 0 where
  pub small : x.row.quota ≤ MOST_QUOTA
  pub taken : All Fits x.taken
  pub waiting : All Fits x.waiting
  pub some : is_idle x.stage ≡ false → 0 < length x.taken
  pub course : IsOnCourse x
  pub right : IsGame x.game
  pub within : game_charge x.game ≤ x.row.quota
  pub moves : is_playing x.stage ≡ true → IsMove x
