-- Acceptable acts may be made in their order, whatever jobs run meanwhile.
use Rattle.std.specs.Prelude.{◌≡◌, true, List, ◌∷◌, ◌++◌}
use Rattle.bs_board.specs.plans.Plan.{GameRow}
use Rattle.bs_sched.specs.declared.event.Event.{Event}
use Rattle.bs_sched.specs.declared.event.Event.TheVariants as event
use Rattle.bs_sched.specs.Isolation.{are_enabled, opened_lanes, shared_run}
use Rattle.bs_sched.specs.Lane.{Lane, is_quiet}
use Rattle.bs_sched.specs.Machine.{Setting, is_enabled, lane_of}
use Rattle.bs_sched.specs.Registry.{capacity_of}
use Rattle.bs_workers.specs.declared.act.Act.{Act}
use Rattle.bs_workers.specs.declared.act.Act.TheVariants as act
use Rattle.bs_workers.specs.Acts.{are_acceptable, opened}
use Rattle.bs_workers.specs.Run.{acts_of}

-- the act's event is enabled; a stay can leave once it is idle
abbrev pub MayBeMade : Setting → List Lane → Act → Type 0
MayBeMade setting lanes (act.Hand stay command) = is_enabled setting lanes (event.Hand stay command) ≡ true
MayBeMade setting lanes (act.Admit row) = is_enabled setting lanes (event.Admit row) ≡ true
MayBeMade setting lanes (act.Leave stay) = is_quiet (lane_of lanes stay) ≡ true → is_enabled setting lanes (event.Leave stay) ≡ true

-- The events make the first acts, with any jobs between them; then the next act may be made.
abbrev pub AcceptableLaw : Type 0
AcceptableLaw =
    (setting : Setting) (plan : List GameRow) (events : List Event) (a : Act) (rest : List Act)
    → are_acceptable (capacity_of setting) (opened plan) (acts_of events ++ a ∷ rest) ≡ true
    → are_enabled setting (opened_lanes plan) events ≡ true
    → MayBeMade setting (shared_run setting plan events) a
