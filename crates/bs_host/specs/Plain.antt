-- Games without hazards, which no file of versions 1 to 3 has.
use Rattle.std.specs.Prelude.{◌≡◌, ℕ, false, List, None, All}
use Rattle.bs_board.specs.declared.boards.board.Board.{Board}
use Rattle.bs_board.specs.declared.commands.reply.Reply.{Reply}
use Rattle.bs_board.specs.declared.commands.reply.Reply.TheVariants.{Shown, Plain, Refused}
use Rattle.bs_board.specs.plans.Version.{has_hazards}
use Rattle.bs_game.specs.Alone.{Course, alone}
use Rattle.bs_host.specs.Cut.{row_at}
use Rattle.bs_host.specs.File.{version_of}
use Rattle.bs_host.specs.Routing.{commands_of, stays_of}

-- its record has version 1 or 2, and its line no hazards
abbrev pub HasNoHazards : Board → Type 0
HasNoHazards b = b.hazards ≡ None

abbrev pub ShowsNoHazards : Reply → Type 0
ShowsNoHazards (Shown word board charge) = HasNoHazards board
ShowsNoHazards (Plain word charge) = Unit {0}
ShowsNoHazards (Refused reason) = Unit {0}

-- each kept board, and each that was shown
pub record IsPlain (course : Course) : Type 0 where
  pub boards : All HasNoHazards course.game
  pub replies : All ShowsNoHazards course.replies

-- each stay of a file whose version has no hazards
abbrev pub PlainLaw : Type 0
PlainLaw =
    (blocks : ℕ) (file : List ℕ) (stay : ℕ) → has_hazards (version_of file) ≡ false
    → IsPlain (alone (row_at (stays_of blocks file) stay) (commands_of blocks file stay))
