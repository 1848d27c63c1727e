-- Which completed parts of a move are the core's own, and the core after their completion.
use Rattle.std.specs.Prelude.{◌≡◌, ℕ, ◌<◌, List, [], ◌∷◌, length, fold, Option, Some, None, slice_index_or}
use Rattle.bs_fiber.specs.Tickets.{TicketView}
use Rattle.bs_fiber.specs.declared.job.JobKind.TheVariants as kind
use Rattle.bs_fiber.specs.declared.job.JobName.{JobName}
use Rattle.bs_sched.specs.declared.event.Event.{Event}
use Rattle.bs_sched.specs.declared.event.Event.TheVariants as event
use Rattle.bs_sched.specs.Core.{CoreView, core_after}
use Rattle.bs_sched.specs.Games.{GamesView}
use Rattle.bs_sched.specs.Machine.{lane_of}
use Rattle.bs_sched.specs.Putting.{IsOwn}

abbrev pub part_job : ℕ → ℕ → JobName
part_job game p = record { game = game; kind = kind.Part; part = p }

-- it is that part of the game's move, out at its worker, with the core's own input
pub record IsOwnPart (games : GamesView) (game p : ℕ) (completed : Option TicketView) : Type 0 where
  pub done : TicketView
  pub is : completed ≡ Some done
  pub job : done.input.job ≡ part_job game p
  pub own : IsOwn games done.input.worker done

-- all parts of one game's move, in part order; if part 0 is out, the game is in stage Parts, and a
-- move has at least one part
pub record AreOwnParts (games : GamesView) (completed : List (Option TicketView)) : Type 0 where
  pub game : ℕ
  pub some : 0 < length completed
  pub all : length completed ≡ length (lane_of games.lanes game).parts
  pub each : (p : ℕ) → p < length completed → IsOwnPart games game p (slice_index_or completed p None)

-- the event of each, in part order
abbrev pub puts_of : List (Option TicketView) → List Event
puts_of [] = []
puts_of (None ∷ completed) = puts_of completed
puts_of (Some done ∷ completed) = event.Put done.input.worker done.input.job ∷ puts_of completed

-- the core after a list of events
abbrev pub core_run : ℕ → CoreView → List Event → CoreView
core_run cap = fold (core_after cap)
