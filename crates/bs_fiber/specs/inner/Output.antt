-- The output of a job, in the contents of its ticket.
use Rattle.std.specs.Prelude.{MatchOption}
use Rattle.bs_fiber.specs.Tickets.{TicketView}
use Rattle.bs_fiber.specs.Work.{IsWorked}

-- its job was run, and it has the output
abbrev pub HasOutput : TicketView → Type 0
HasOutput t = MatchOption t.out ⊥ (IsWorked t.input)
