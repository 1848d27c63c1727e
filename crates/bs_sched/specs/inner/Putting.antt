-- What private contracts add to specs/Putting.
use Rattle.std.specs.Prelude.{◌≡◌, ℕ, true}
use Rattle.bs_fiber.specs.Tickets.{TicketView}
use Rattle.bs_sched.specs.Inputs.{input_of}
use Rattle.bs_sched.specs.Lane.{Lane, is_out}

-- the worker has the job, and its input is the lane's
pub record IsOwnOf (x : Lane) (worker : ℕ) (ticket : TicketView) : Type 0 where
  pub out : is_out worker x ticket.input.job.kind ticket.input.job.part ≡ true
  pub input : ticket.input ≡ input_of x worker ticket.input.job
