-- Properties of all answers and courses.
use Rattle.std.specs.Prelude.{◌≡◌, ℕ, ◌+◌, ◌≤◌, List, [], ◌∷◌, ◌++◌, length, map, All}
use Rattle.bs_block.specs.Rounding.{rounded}
use Rattle.bs_board.specs.declared.boards.board.Board.{Board}
use Rattle.bs_board.specs.declared.commands.command.Command.{Command}
use Rattle.bs_board.specs.boards.Legal.{IsLegal}
use Rattle.bs_board.specs.records.Record.{record_of}
use Rattle.bs_game.specs.declared.reply.Answer.{Answer}
use Rattle.bs_game.specs.declared.reply.Effect.{Effect}
use Rattle.bs_game.specs.declared.reply.Effect.TheVariants as effect
use Rattle.bs_game.specs.Alone.{Course, course_of}
use Rattle.bs_game.specs.Answer.{Fits, Outcome, answer_to, view_of_game}
use Rattle.bs_game.specs.Game.{Game, IsGame, newest, game_charge}
use Rattle.bs_game.specs.View.{effect_of, answer_of}

-- the records after an effect
abbrev pub effected : Effect → List (List ℕ) → List (List ℕ)
effected effect.Keep records = records
effected (effect.Add bytes) records = records ++ bytes ∷ []
effected effect.Trim records = newest records
effected effect.Drop records = []

-- the record of a legal board that fits into a quota besides what is charged already
pub record IsFitRecord (most charge : ℕ) (bytes : List ℕ) : Type 0 where
  pub board : Board
  pub legal : IsLegal board
  pub is : bytes ≡ record_of board
  pub room : charge + rounded (length bytes) ≤ most

abbrev pub IsFitEffect : ℕ → ℕ → Effect → Type 0
IsFitEffect most charge effect.Keep = Unit {0}
IsFitEffect most charge (effect.Add bytes) = IsFitRecord most charge bytes
IsFitEffect most charge effect.Trim = Unit {0}
IsFitEffect most charge effect.Drop = Unit {0}

-- an answer and the records after it, compared with the definition's reply and game
pub record IsAnswerTo (most : ℕ) (game : Game) (outcome : Outcome) (answer : Answer) : Type 0 where
  pub reply : answer.reply ≡ outcome.reply
  pub told : answer.effect ≡ effect_of outcome.reply
  pub records : effected answer.effect (map record_of game) ≡ map record_of outcome.game
  pub fits : IsFitEffect most (game_charge game) answer.effect
  pub right : IsGame outcome.game
  pub within : game_charge outcome.game ≤ most

abbrev pub AnswerLaw : Type 0
AnswerLaw =
    (most : ℕ) (game : Game) (command : Command) → IsGame game → game_charge game ≤ most → Fits command
    → IsAnswerTo most game (answer_to most game command) (answer_of (view_of_game most game command) command)

-- a game within its quota, and a reply to each command
pub record IsCourse (quota : ℕ) (commands : List Command) (course : Course) : Type 0 where
  pub right : IsGame course.game
  pub within : game_charge course.game ≤ quota
  pub answered : length course.replies ≡ length commands

abbrev pub CourseLaw : Type 0
CourseLaw = (quota : ℕ) (commands : List Command) → All Fits commands → IsCourse quota commands (course_of quota commands)
