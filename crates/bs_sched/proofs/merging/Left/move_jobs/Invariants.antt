-- The jobs moved so far, then those still to be moved.
use Rattle.std.proofs.Common.{◌≡◌, ◌++◌}
use Rattle.bs_sched.specs.Assembly.{jobs_at}
use Rattle.bs_sched.proofs.merging.Left.move_jobs.Given as goal

abbrev pub invariant-loop-event : goal.invariant-loop-event
invariant-loop-event l = l.journal.items ++ jobs_at l.row l.event-iterator.rest.items ≡ l.fn.journal.items ++ jobs_at l.row l.fn.self
