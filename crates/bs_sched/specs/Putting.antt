-- Which completed jobs are the core's own.
use Rattle.std.specs.Prelude.{◌≡◌, ◌≢◌, ℕ, true}
use Rattle.bs_fiber.specs.Tickets.{TicketView, names_of}
use Rattle.bs_fiber.specs.declared.job.JobKind.TheVariants as kind
use Rattle.bs_sched.specs.declared.event.Event.TheVariants as event
use Rattle.bs_sched.specs.Games.{GamesView}
use Rattle.bs_sched.specs.Inputs.{input_of, names_for}
use Rattle.bs_sched.specs.Machine.{lane_of, is_enabled_there}

-- the worker has the job, and its input and its frame blocks are the core's own
pub record IsOwn (games : GamesView) (worker : ℕ) (ticket : TicketView) : Type 0 where
  pub out : is_enabled_there games.workers games.lanes (event.Put worker ticket.input.job) ≡ true
  pub input : ticket.input ≡ input_of (lane_of games.lanes ticket.input.job.game) worker ticket.input.job
  pub frames : names_of ticket.frames ≡ names_for games.storage ticket.input.job

-- a Begin or a Join of the core's own; parts are completed all at once
pub record IsOwnJob (games : GamesView) (worker : ℕ) (ticket : TicketView) : Type 0 where
  pub kind : ticket.input.job.kind ≢ kind.Part
  pub own : IsOwn games worker ticket
