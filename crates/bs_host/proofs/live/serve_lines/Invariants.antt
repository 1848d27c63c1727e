-- What was read and answered so far.
use Rattle.std.proofs.Common.{ℕ, List, [], ◌++◌}
use Rattle.std.specs.Io.KnownBytes.{Consumes}
use Rattle.bs_board.specs.declared.plans.version.Version.{Version}
use Rattle.bs_board.specs.plans.Plan.{GameRow}
use Rattle.bs_host.specs.inner.Live.{HasAnswered, IsServing}
use Rattle.bs_host.proofs.live.serve_lines.Given as goal

abbrev pub invariant-loop : goal.invariant-loop
invariant-loop g l =
    (blocks : ℕ) (version : Version) (plan : List GameRow) → HasAnswered blocks version plan [] l.fn.host
    → (bytes : List ℕ) × Consumes (g.R.Read.remaining l.fn.input) (g.R.Read.remaining l.input) bytes
    × IsServing blocks version plan (l.rest ++ bytes) l.flow.pending.items (g.W.Write.contents l.fn.output) (g.W.Write.contents l.output) l.flow.answers.written l.flow.answers.host
