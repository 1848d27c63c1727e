-- What a thread that has the core alone does to it.
use Rattle.std.specs.Prelude.{◌≡◌, ℕ, true, false, List, ◌∷◌, ◌++◌, length, sum_by}
use Rattle.bs_pool.specs.Ledger.{size}
use Rattle.bs_sched.specs.declared.event.Event.{Event}
use Rattle.bs_sched.specs.Core.{CoreView}
use Rattle.bs_sched.specs.Lane.{Lane, is_idle}
use Rattle.bs_sched.specs.Machine.{lane_of}
use Rattle.bs_workers.specs.declared.act.Act.{Act}
use Rattle.bs_workers.specs.Acts.{are_acceptable, capacity_of_core, opened}
use Rattle.bs_workers.specs.Run.{acts_of}

-- each stay is between two commands
abbrev pub AreIdle : List Lane → Type 0
AreIdle lanes = (game : ℕ) → is_idle (lane_of lanes game).stage ≡ true

-- `fail` was not called either
pub record IsCalm (core : CoreView) : Type 0 where
  pub works : core.games.failed ≡ false
  pub idle : AreIdle core.games.lanes

-- the commands that wait in all stays
abbrev pub waiting_in : List Lane → ℕ
waiting_in = sum_by (λ x. length x.waiting)

-- The core's journal goes on by events that make these acts, with any jobs between them. A job that
-- is taken is also completed.
pub record Makes (acts : List Act) (old new : CoreView) : Type 0 where
  pub added : List Event
  pub journal : new.journal ≡ old.journal ++ added
  pub acted : acts_of added ≡ acts
  pub workers : new.games.workers ≡ old.games.workers
  pub rows : new.games.rows ≡ old.games.rows
  pub blocks : size new.games.storage.pool ≡ size old.games.storage.pool
  pub calm : IsCalm old → IsCalm new

-- These acts are acceptable, in their order, after those that the core has made.
abbrev pub AreNext : ℕ → CoreView → List Act → Type 0
AreNext cap core acts = are_acceptable (capacity_of_core cap core) (opened core.games.rows) (acts_of core.journal ++ acts) ≡ true

-- so is this one, and some acts behind it
abbrev pub IsNext : ℕ → CoreView → Act → Type 0
IsNext cap core next = (rest : List Act) × AreNext cap core (next ∷ rest)
