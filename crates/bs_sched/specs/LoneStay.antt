-- A stay that was played in a core of its own, without that core.
use Rattle.std.specs.Prelude.{ℕ, List, Option, Some, None}
use Rattle.bs_heap.specs.Packing.{Packing, no_packing}
use Rattle.bs_pool.specs.Ledger.{Ledger}
use Rattle.bs_sched.specs.declared.event.Event.{Event}
use Rattle.bs_sched.specs.Assembly.{own_frames, own_lane}
use Rattle.bs_sched.specs.Core.{CoreView}
use Rattle.bs_sched.specs.Lane.{Lane, closed_lane}
use Rattle.bs_sched.specs.Storage.{packing_of}

pub record LoneView : Type 0 where
  pub lane : Lane
  pub packing : Packing
  pub frames : List (Option ℕ)
  -- the events of its core before it left
  pub journal : List Event
  -- the blocks of its core; none once it has left
  pub pool : Option Ledger

-- the open stay of that core
abbrev pub kept_of_core : CoreView → LoneView
kept_of_core core =
    record {
      lane = own_lane core;
      packing = packing_of core.games.storage 0;
      frames = own_frames core;
      journal = core.journal;
      pool = Some core.games.storage.pool;
    }

-- the stay that has left it: its lane is closed, and it has no record
abbrev pub left_of_core : CoreView → LoneView
left_of_core core = record { lane = closed_lane (own_lane core); packing = no_packing; frames = own_frames core; journal = core.journal; pool = None }
