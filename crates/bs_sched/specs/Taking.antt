-- What `take` returns to a worker, and the core after it.
use Rattle.std.specs.Prelude.{◌≡◌, ℕ, true, false, length, Option, Some, None}
use Rattle.bs_counter.specs.Keys.{Key}
use Rattle.bs_fiber.specs.Tickets.{TicketView, IsFresh, names_of}
use Rattle.bs_fiber.specs.declared.job.JobName.{JobName}
use Rattle.bs_sched.specs.declared.event.Event.TheVariants as event
use Rattle.bs_sched.specs.declared.taking.Taken.{Taken}
use Rattle.bs_sched.specs.declared.taking.Taken.TheVariants as taken
use Rattle.bs_sched.specs.Core.{CoreView, core_taken}
use Rattle.bs_sched.specs.Games.{KeepsTallies, tally_of}
use Rattle.bs_sched.specs.Inputs.{input_of, names_for}
use Rattle.bs_sched.specs.Keyed.{IsKeyOf}
use Rattle.bs_sched.specs.Machine.{lane_of, is_busy, is_enabled_there}

pub record IsFailed (old new : CoreView) : Type 0 where
  pub failed : old.games.failed ≡ true
  pub same : new ≡ old

pub record IsBusyWorker (old : CoreView) (worker : ℕ) (new : CoreView) : Type 0 where
  pub failed : old.games.failed ≡ false
  pub busy : is_busy worker old.games.lanes ≡ true
  pub same : new ≡ old

-- the worker can take no job
pub record HasNothing (old : CoreView) (worker : ℕ) (new : CoreView) : Type 0 where
  pub failed : old.games.failed ≡ false
  pub free : is_busy worker old.games.lanes ≡ false
  pub none : (job : JobName) → is_enabled_there old.games.workers old.games.lanes (event.Take worker job) ≡ false
  pub same : new ≡ old

-- the worker may take the job, and its ticket holds the core's own input
pub record TakesJob (cap : ℕ) (old : CoreView) (worker : ℕ) (ticket : TicketView) (new : CoreView) : Type 0 where
  pub failed : old.games.failed ≡ false
  pub enabled : is_enabled_there old.games.workers old.games.lanes (event.Take worker ticket.input.job) ≡ true
  pub after : new ≡ core_taken cap old worker ticket.input.job new.games.tallies
  pub tallies : KeepsTallies ticket.input.job old.games.tallies new.games.tallies
  pub input : ticket.input ≡ input_of (lane_of new.games.lanes ticket.input.job.game) worker ticket.input.job
  -- its frame blocks are the game's own, in the state that the job needs
  pub frames : names_of ticket.frames ≡ names_for new.games.storage ticket.input.job
  pub fresh : IsFresh ticket

-- a part is taken with its key in the tally of its stay's move
abbrev pub HasKeyOf : CoreView → JobName → Option Key → Type 0
HasKeyOf core job key = IsKeyOf (tally_of core.games.tallies job.game) (length (lane_of core.games.lanes job.game).parts) job key

-- the answers in the order in which they are judged
abbrev pub TakesAs : (cap : ℕ) → CoreView → ℕ → Taken cap → CoreView → Type 0
TakesAs cap old worker taken.Failed new = IsFailed old new
TakesAs cap old worker taken.Busy new = IsBusyWorker old worker new
TakesAs cap old worker taken.Nothing new = HasNothing old worker new
TakesAs cap old worker (taken.Job ticket) new = TakesJob cap old worker ticket new × HasKeyOf new ticket.input.job None
TakesAs cap old worker (taken.Part ticket key) new = TakesJob cap old worker ticket new × HasKeyOf new ticket.input.job (Some key)
