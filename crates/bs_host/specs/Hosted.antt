-- A core that has answered a file.
use Rattle.std.specs.Prelude.{◌≡◌, ℕ, ◌<◌, true, false, List, length}
use Rattle.std.specs.List.{list_all}
use Rattle.bs_board.specs.plans.Plan.{GameRow}
use Rattle.bs_pool.specs.Ledger.{size}
use Rattle.bs_sched.specs.Core.{CoreView}
use Rattle.bs_sched.specs.Games.{row_at}
use Rattle.bs_sched.specs.Registry.{IsServedAlone}
use Rattle.bs_sched.specs.Lane.{is_quiet}
use Rattle.bs_sched.specs.Machine.{lane_of}
use Rattle.bs_workers.specs.Run.{acts_of, rows_made}
use Rattle.bs_host.specs.declared.route.Route.{Route}
use Rattle.bs_host.specs.File.{rows_of}
use Rattle.bs_host.specs.Routing.{acts_in, commands_to, routes_of, stays_of}

-- The core has the file's plan and `blocks` blocks, `fail` was not called, and it is idle. Its
-- stays have these rows. Its journal makes exactly the acts of the lines, in their order, and each
-- stay is as its own lines alone leave it: one that has left keeps its last board and its charge.
pub record HostsLines (blocks : ℕ) (plan stays : List GameRow) (routes : List (ℕ × Route)) (core : CoreView) : Type 0 where
  pub rows : core.games.rows ≡ plan
  pub made : rows_made core.games.lanes ≡ stays
  pub pool : size core.games.storage.pool ≡ blocks
  pub failed : core.games.failed ≡ false
  pub quiet : list_all is_quiet core.games.lanes ≡ true
  pub acted : acts_of core.journal ≡ acts_in routes
  pub served : (stay : ℕ) → stay < length stays → IsServedAlone (row_at stays stay) (commands_to stay routes) (lane_of core.games.lanes stay)

-- a core that has answered a file: its plan, its stays and its lines
abbrev pub Hosts : ℕ → List ℕ → CoreView → Type 0
Hosts blocks file = HostsLines blocks (rows_of file) (stays_of blocks file) (routes_of blocks file)
