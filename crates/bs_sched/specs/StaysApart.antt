-- Stays that come and go, each of which was played in a core of its own, put together: the core of
-- all stays that the same events lead to.
use Rattle.std.specs.Prelude.{◌≡◌, ℕ, suc, ◌<◌, Bool, true, false, ◌&&◌, ◌||◌, if◌then◌else◌, nat_eq, nat_le, List, [], ◌∷◌, ◌++◌, length, map, replicate, slice_index_or, All, Option, None}
use Rattle.bs_board.specs.declared.commands.command.Command.{Command}
use Rattle.bs_board.specs.plans.Plan.{GameRow}
use Rattle.bs_pool.specs.declared.reservation.Reservation.{Reservation}
use Rattle.bs_pool.specs.Ledger.{ledger_of, size}
use Rattle.bs_heap.specs.Packing.{Packing, no_packing}
use Rattle.bs_heap.specs.Renaming.{renamed_packing}
use Rattle.bs_pool.specs.Woven.{place_in}
use Rattle.bs_registry.specs.Blocks.{blocks_of}
use Rattle.bs_registry.specs.Stays.{Capacity, Stay, is_in, may_admit_in, open_stay}
use Rattle.bs_sched.specs.declared.event.Event.{Event}
use Rattle.bs_sched.specs.declared.event.Event.TheVariants as event
use Rattle.bs_sched.specs.Assembly.{RanAlone, jobs_at, own_frames, own_lane, owners_with, reservation_at, setting_with}
use Rattle.bs_sched.specs.Core.{CoreView, opened_core}
use Rattle.bs_sched.specs.Games.{row_at}
use Rattle.bs_sched.specs.Isolation.{HandsFit}
use Rattle.bs_sched.specs.Journal.{IsItsJournal}
use Rattle.bs_sched.specs.Lane.{Lane, closed_lane, may_leave}
use Rattle.bs_sched.specs.Registry.{capacity_of, commands_to, registry_after, rows_in, solo_commands}
use Rattle.bs_sched.specs.SharedMemory.{IsHosted}
use Rattle.bs_sched.specs.Storage.{packing_of}

-- The acts of a file: commands, admissions and leaves, in the order of its lines.

-- the registry allows the act, whatever the state of the games; a job is no act
abbrev pub is_act_in : Capacity → List Stay → Event → Bool
is_act_in capacity registry (event.Hand game command) = is_in registry game
is_act_in capacity registry (event.Take worker job) = false
is_act_in capacity registry (event.Put worker job) = false
is_act_in capacity registry (event.Admit row) = may_admit_in capacity registry row
is_act_in capacity registry (event.Leave game) = is_in registry game

-- it allows each act in its place
abbrev pub are_acts_in : Capacity → List Stay → List Event → Bool
are_acts_in capacity registry [] = true
are_acts_in capacity registry (e ∷ acts) = is_act_in capacity registry e && are_acts_in capacity (registry_after registry e) acts

-- the stay leaves
abbrev pub leaves_in : ℕ → List Event → Bool
leaves_in game [] = false
leaves_in game (event.Hand row command ∷ acts) = leaves_in game acts
leaves_in game (event.Take worker job ∷ acts) = leaves_in game acts
leaves_in game (event.Put worker job ∷ acts) = leaves_in game acts
leaves_in game (event.Admit row ∷ acts) = leaves_in game acts
leaves_in game (event.Leave left ∷ acts) = nat_eq left game || leaves_in game acts

-- A stay that was played in a core of its own: the core as it is before the stay leaves, and whether
-- it leaves.
pub record PlayedStay : Type 0 where
  pub core : CoreView
  pub leaves : Bool

-- a core without events, if there is no stay of that row
abbrev pub stay_of_row : List PlayedStay → ℕ → PlayedStay
stay_of_row stays row = slice_index_or stays row (record { core = opened_core 0 0 0 []; leaves = false })

-- The journal.

-- the acts in the order of the file, and before each leave the jobs of the stay that leaves
abbrev pub acts_with_jobs : List PlayedStay → List Event → List Event
acts_with_jobs stays [] = []
acts_with_jobs stays (event.Hand game command ∷ acts) = event.Hand game command ∷ acts_with_jobs stays acts
acts_with_jobs stays (event.Take worker job ∷ acts) = event.Take worker job ∷ acts_with_jobs stays acts
acts_with_jobs stays (event.Put worker job ∷ acts) = event.Put worker job ∷ acts_with_jobs stays acts
acts_with_jobs stays (event.Admit row ∷ acts) = event.Admit row ∷ acts_with_jobs stays acts
acts_with_jobs stays (event.Leave game ∷ acts) = jobs_at game (stay_of_row stays game).core.journal ++ event.Leave game ∷ acts_with_jobs stays acts

abbrev pub jobs_kept : ℕ → PlayedStay → List Event
jobs_kept row stay = if stay.leaves then [] else jobs_at row stay.core.journal

-- the jobs of each stay that does not leave, one stay after the other; the first has this row
abbrev pub jobs_left : ℕ → List PlayedStay → List Event
jobs_left row [] = []
jobs_left row (stay ∷ stays) = jobs_kept row stay ++ jobs_left (suc row) stays

-- all acts with the jobs of the stays that leave, then the jobs of the others
abbrev pub played_journal : List PlayedStay → List Event → List Event
played_journal stays acts = acts_with_jobs stays acts ++ jobs_left 0 stays

-- The blocks. A stay that left has none. Those of the others have, one stay after the other, the
-- numbers that are still free, in order.

abbrev pub owners_kept : ℕ → List (Option ℕ) → PlayedStay → List (Option ℕ)
owners_kept row owners stay = if stay.leaves then owners else owners_with row owners stay.core

abbrev pub all_owners_kept : ℕ → List (Option ℕ) → List PlayedStay → List (Option ℕ)
all_owners_kept row owners [] = owners
all_owners_kept row owners (stay ∷ stays) = all_owners_kept (suc row) (owners_kept row owners stay) stays

abbrev pub packing_kept : List (Option ℕ) → PlayedStay → Packing
packing_kept owners stay = if stay.leaves then no_packing else renamed_packing (place_in owners) (packing_of stay.core.games.storage 0)

abbrev pub packings_kept : ℕ → List (Option ℕ) → List PlayedStay → List Packing
packings_kept row owners [] = []
packings_kept row owners (stay ∷ stays) = packing_kept owners stay ∷ packings_kept (suc row) (owners_kept row owners stay) stays

abbrev pub reservations_kept : ℕ → PlayedStay → List Reservation
reservations_kept row stay = if stay.leaves then [] else map (reservation_at row) stay.core.games.storage.pool.reservations

-- the reservations of each stay that does not leave, one stay after the other
abbrev pub all_reservations_kept : ℕ → List PlayedStay → List Reservation
all_reservations_kept row [] = []
all_reservations_kept row (stay ∷ stays) = reservations_kept row stay ++ all_reservations_kept (suc row) stays

-- The whole.

-- the lane of its core, closed if the stay leaves
abbrev pub lane_kept : PlayedStay → Lane
lane_kept stay = if stay.leaves then closed_lane (own_lane stay.core) else own_lane stay.core

-- no frame block is out
abbrev pub frames_kept : PlayedStay → List (Option ℕ)
frames_kept stay = own_frames stay.core

-- the core of all stays, over `blocks` blocks
abbrev pub stays_assembled : ℕ → ℕ → List GameRow → List Event → List PlayedStay → CoreView
stays_assembled blocks workers plan acts stays =
    record {
      games = record {
        rows = plan;
        workers = workers;
        failed = false;
        lanes = map lane_kept stays;
        storage = record {
          packings = packings_kept 0 (replicate blocks None) stays;
          frames = map frames_kept stays;
          pool = ledger_of (all_owners_kept 0 (replicate blocks None) stays) (all_reservations_kept 0 stays);
        };
        tallies = [];
      };
      journal = played_journal stays acts;
    }

-- The core of one stay: it has as many workers and the blocks that the stay reserves. First all its
-- commands were queued, and no job is in progress. A stay that leaves has nothing left to do.
pub record PlayedAlone (cap workers : ℕ) (row : GameRow) (commands : List Command) (leaves : Bool) (stay : PlayedStay) : Type 0 where
  pub alone : RanAlone cap workers row commands stay.core
  pub leaves_same : stay.leaves ≡ leaves
  pub may : stay.leaves ≡ true → may_leave (own_lane stay.core) ≡ true

-- the rows of all stays: those of the plan, then the admitted ones
abbrev pub all_rows : List GameRow → List Event → List GameRow
all_rows plan acts = plan ++ rows_in acts

-- one core for each stay of the plan or admitted by the acts
pub record PlayedApart (cap workers : ℕ) (plan : List GameRow) (acts : List Event) (stays : List PlayedStay) : Type 0 where
  pub many : length stays ≡ length (all_rows plan acts)
  pub each : (row : ℕ) → row < length stays
      → PlayedAlone cap workers (row_at (all_rows plan acts) row) (commands_to row acts) (leaves_in row acts) (stay_of_row stays row)

-- The whole has as many blocks, and it is its journal: each event was enabled in its place, and they
-- lead to these lanes, packings, frame blocks, owners and reservations.
pub record AreStaysAssembled (cap blocks workers : ℕ) (plan : List GameRow) (acts : List Event) (stays : List PlayedStay) : Type 0 where
  pub blocks_same : size (stays_assembled blocks workers plan acts stays).games.storage.pool ≡ blocks
  pub journaled : IsItsJournal cap (stays_assembled blocks workers plan acts stays)

-- For every plan that is hosted, and all acts within the limits that the registry allows in their
-- order.
abbrev pub StaysApartLaw : Type 0
StaysApartLaw =
    (cap blocks workers : ℕ) (plan : List GameRow) (acts : List Event) (stays : List PlayedStay) → IsHosted (setting_with cap blocks workers) plan
    → All HandsFit acts → are_acts_in (capacity_of (setting_with cap blocks workers)) (map open_stay plan) acts ≡ true
    → PlayedApart cap workers plan acts stays → AreStaysAssembled cap blocks workers plan acts stays

-- A stay that plays a turn can be played so, whether it leaves or not.
abbrev pub PlayedExample : Type 0
PlayedExample =
    (cap workers : ℕ) (row : GameRow) (leaves : Bool) → IsHosted (setting_with cap (blocks_of cap row) workers) (row ∷ []) → nat_le 64 row.quota ≡ true
    → (stay : PlayedStay) × PlayedAlone cap workers row solo_commands leaves stay
