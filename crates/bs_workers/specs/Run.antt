-- The result of a run: every act was made in order, and every command was answered, in each stay as
-- if the stay were alone.
use Rattle.std.specs.Prelude.{◌≡◌, ℕ, ◌<◌, true, false, List, ◌++◌, length, map, Option, Some, None}
use Rattle.std.specs.List.{filter_map, list_all}
use Rattle.bs_board.specs.plans.Plan.{GameRow}
use Rattle.bs_pool.specs.Ledger.{size}
use Rattle.bs_sched.specs.declared.event.Event.{Event}
use Rattle.bs_sched.specs.declared.event.Event.TheVariants as event
use Rattle.bs_sched.specs.Registry.{IsServedAlone}
use Rattle.bs_sched.specs.Core.{CoreView}
use Rattle.bs_sched.specs.Games.{row_at}
use Rattle.bs_sched.specs.Lane.{Lane, is_quiet}
use Rattle.bs_sched.specs.Machine.{lane_of}
use Rattle.bs_workers.specs.declared.act.Act.{Act}
use Rattle.bs_workers.specs.declared.act.Act.TheVariants as act
use Rattle.bs_workers.specs.Acts.{command_in, rows_admitted}

-- the act that an event makes; none if it is a job's
abbrev pub act_of : Event → Option Act
act_of (event.Hand game command) = Some (act.Hand game command)
act_of (event.Take worker job) = None
act_of (event.Put worker job) = None
act_of (event.Admit row) = Some (act.Admit row)
act_of (event.Leave game) = Some (act.Leave game)

abbrev pub acts_of : List Event → List Act
acts_of = filter_map act_of

-- the rows of the stays, in their order
abbrev pub rows_made : List Lane → List GameRow
rows_made = map (λ x. x.row)

-- The core has the same plan and as many blocks, `fail` was not called, and it is idle. Its stays
-- are those of the plan, then the admitted ones. Its journal makes exactly these acts, in their
-- order, and each stay is as its own commands leave it; one that has left keeps its last board and
-- its charge.
pub record IsRunOf (old : CoreView) (acts : List Act) (new : CoreView) : Type 0 where
  pub plan : new.games.rows ≡ old.games.rows
  pub stays : rows_made new.games.lanes ≡ old.games.rows ++ rows_admitted acts
  pub blocks : size new.games.storage.pool ≡ size old.games.storage.pool
  pub failed : new.games.failed ≡ false
  pub quiet : list_all is_quiet new.games.lanes ≡ true
  pub acted : acts_of new.journal ≡ acts
  pub served : (stay : ℕ) → stay < length (old.games.rows ++ rows_admitted acts)
      → IsServedAlone (row_at (old.games.rows ++ rows_admitted acts) stay) (filter_map (command_in stay) acts) (lane_of new.games.lanes stay)
