-- The reservations of the open stays.
use Rattle.std.specs.Prelude.{◌≡◌, ◌≢◌, ℕ, ◌*◌, ◌<◌, ◌≤◌, true, List, length, All, AllPairs}
use Rattle.bs_board.specs.plans.Plan.{GameRow}
use Rattle.bs_pool.specs.declared.reservation.Reservation.{Reservation}
use Rattle.bs_pool.specs.Reservations.{reserved_by, all_reserved}
use Rattle.bs_registry.specs.declared.blocks.TheConstants.{FRAME_BLOCKS}
use Rattle.bs_sched.specs.Lane.{Lane}
use Rattle.bs_sched.specs.Machine.{lane_of, open_blocks}
use Rattle.bs_registry.specs.Blocks.{record_blocks}
use Rattle.bs_sched.specs.Storage.{record_tag, frame_tag}

pub record IsReserved (cap game : ℕ) (row : GameRow) (rs : List Reservation) : Type 0 where
  pub records : reserved_by (record_tag game) rs ≡ record_blocks cap row
  pub frames : reserved_by (frame_tag game) rs ≡ FRAME_BLOCKS

pub record AreReserved (cap blocks : ℕ) (lanes : List Lane) (rs : List Reservation) : Type 0 where
  pub within : all_reserved rs ≡ open_blocks cap lanes
  pub distinct : AllPairs (λ r s. r.tag ≢ s.tag) rs
  pub room : open_blocks cap lanes ≤ blocks
  -- each tag is of a stay that was made
  pub below : All (λ r. r.tag < 2 * length lanes) rs
  pub each : (game : ℕ) → game < length lanes → (lane_of lanes game).is_open ≡ true → IsReserved cap game (lane_of lanes game).row rs
