-- The reservations for the games of a plan, of blocks of `cap` bytes.
use Rattle.std.specs.Prelude.{ℕ, ◌+◌, List, [], ◌∷◌}
use Rattle.bs_board.specs.plans.Plan.{GameRow}
use Rattle.bs_pool.specs.declared.reservation.Reservation.{Reservation}
use Rattle.bs_pool.specs.Ledger.{Ledger, with_reservation}
use Rattle.bs_registry.specs.Blocks.{record_blocks}
use Rattle.bs_registry.specs.declared.blocks.TheConstants.{FRAME_BLOCKS}
use Rattle.bs_sched.specs.Storage.{record_tag, frame_tag}

-- the reservations of both tags of that row
abbrev pub with_row : ℕ → ℕ → GameRow → Ledger → Ledger
with_row cap game row pool = with_reservation (frame_tag game) FRAME_BLOCKS (with_reservation (record_tag game) (record_blocks cap row) pool)

-- the reservations of the games from that row on
abbrev pub reservations_from : ℕ → ℕ → List GameRow → List Reservation
reservations_from cap game [] = []
reservations_from cap game (row ∷ rows) =
    record { tag = record_tag game; blocks = record_blocks cap row } ∷ record { tag = frame_tag game; blocks = FRAME_BLOCKS } ∷ reservations_from cap (game + 1) rows

abbrev pub reservations_of : ℕ → List GameRow → List Reservation
reservations_of cap = reservations_from cap 0
