-- The jobs so far made no act. One command fewer waits after each turn.
use Rattle.std.proofs.Common.{◌≡◌, []}
use Rattle.bs_workers.specs.inner.Making.{Makes, waiting_in}
use Rattle.bs_workers.proofs.alone.Alone.answer_all.Given as goal

abbrev pub invariant-commands : goal.invariant-commands
invariant-commands g l = Makes [] l.fn.self.core l.self.core × (l.self.worker ≡ l.fn.self.worker) × (l.self.gate ≡ l.fn.self.gate)

abbrev pub decreases-commands : goal.decreases-commands
decreases-commands g l = waiting_in l.self.core.games.lanes
