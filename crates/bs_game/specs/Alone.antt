-- A game by itself: its commands in order, starting with no game.
use Rattle.std.specs.Prelude.{ℕ, List, [], ◌∷◌, ◌++◌, fold}
use Rattle.bs_board.specs.declared.commands.command.Command.{Command}
use Rattle.bs_board.specs.declared.commands.reply.Reply.{Reply}
use Rattle.bs_board.specs.plans.Plan.{GameRow}
use Rattle.bs_game.specs.Game.{Game}
use Rattle.bs_game.specs.Answer.{Outcome, answer_to}

-- the replies so far, and the game after them
pub record Course : Type 0 where
  pub replies : List Reply
  pub game : Game

abbrev pub no_course : Course
no_course = record { replies = []; game = [] }

abbrev pub course_after : Course → Outcome → Course
course_after course outcome = record { replies = course.replies ++ outcome.reply ∷ []; game = outcome.game }

-- the course after one more command
abbrev pub course_with : ℕ → Course → Command → Course
course_with quota course command = course_after course (answer_to quota course.game command)

abbrev pub course_of : ℕ → List Command → Course
course_of quota commands = fold (course_with quota) no_course commands

abbrev pub alone : GameRow → List Command → Course
alone row commands = course_of row.quota commands
