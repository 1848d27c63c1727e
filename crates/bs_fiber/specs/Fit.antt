-- Inputs that a game can give to a job.
use Rattle.std.specs.Prelude.{◌≡◌, ℕ, ◌<◌, ◌≤◌, true, List, [], length, map, Option, None, IfSome}
use Rattle.bs_board.specs.declared.commands.command.Command.{Command}
use Rattle.bs_board.specs.declared.commands.command.Command.TheVariants as command
use Rattle.bs_board.specs.declared.limits.TheConstants.{MOST_QUOTA}
use Rattle.bs_board.specs.records.Kept.{IsLegalRecord}
use Rattle.bs_game.specs.declared.view.View.{View}
use Rattle.bs_fiber.specs.declared.input.Input.{Input}
use Rattle.bs_fiber.specs.declared.job.JobKind.{JobKind}
use Rattle.bs_fiber.specs.declared.job.JobKind.TheVariants.{Begin, Part, Join}
use Rattle.bs_fiber.specs.declared.piece.Piece.{Piece}
use Rattle.bs_fiber.specs.Frames.{pieces_from}
use Rattle.bs_fiber.specs.Seeing.{IsSeen}
use Rattle.bs_fiber.specs.Work.{goes, moved_parts, parts_of, snakes_in}

-- only `turn` names another record
abbrev pub IsAskedBy : Command → Option (List ℕ) → Type 0
IsAskedBy (command.New setup) asked = asked ≡ None
IsAskedBy (command.Move orders) asked = asked ≡ None
IsAskedBy command.Show asked = asked ≡ None
IsAskedBy (command.Turn at) asked = Unit {0}
IsAskedBy command.Free asked = asked ≡ None
IsAskedBy command.End asked = asked ≡ None
IsAskedBy command.Bad asked = asked ≡ None

-- the records of legal boards, and a charge within its quota; no quota is above 16,777,216
pub record IsFitGame (i : Input) : Type 0 where
  pub last : IfSome i.last IsLegalRecord
  pub asked : IfSome i.asked IsLegalRecord
  pub asked_by : IsAskedBy i.command i.asked
  pub within : i.charge ≤ i.quota
  pub small : i.quota ≤ MOST_QUOTA

-- a part of an accepted move
pub record IsFitPart (part : ℕ) (view : View) (command : Command) : Type 0 where
  pub goes : goes view command ≡ true
  pub there : part < parts_of (length (snakes_in view.last))

-- the places of the snakes that each part of an accepted move moved
pub record IsFitJoin (parts : List (List Piece)) (view : View) (command : Command) : Type 0 where
  pub goes : goes view command ≡ true
  pub moved : parts ≡ map (pieces_from 0) (moved_parts view command)

-- a Begin requires nothing of the view
abbrev pub IsFitJob : JobKind → Input → View → Type 0
IsFitJob Begin i view = i.parts ≡ []
IsFitJob Part i view = (i.parts ≡ []) × IsFitPart i.job.part view i.command
IsFitJob Join i view = IsFitJoin i.parts view i.command

pub record IsFitInput (i : Input) : Type 0 where
  pub game : IsFitGame i
  pub job : (view : View) → IsSeen view i → IsFitJob i.job.kind i view
