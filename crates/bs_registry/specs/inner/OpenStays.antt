-- What private contracts add to specs/OpenStays.
use Rattle.std.specs.Prelude.{◌≡◌, ℕ, ◌-◌, Bool, ◌&&◌, not, List, [], ◌∷◌, ◌++◌, length, slice_index_or, count_by, nat_eq, nat_lt, Option}
use Rattle.std.specs.List.{filter, list_any, position}
use Rattle.bs_board.specs.plans.Plan.{GameRow, row_of}
use Rattle.bs_registry.specs.Blocks.{blocks_of}
use Rattle.bs_registry.specs.OpenStays.{OpenStayList, bears, blocks_in, found_in, is_full_open, open_of}
use Rattle.bs_registry.specs.Stays.{Capacity, Stay, blocks_in_registry, has_name, refusal_in_order, with_admitted, with_closed}
use Rattle.bs_registry.specs.declared.refusal.Refusal.{Refusal}

-- of a stay of which only the row matters
abbrev pub nothing_kept : GameRow → Unit {0}
nothing_kept row = tt

-- whether one of that name is at that index
abbrev pub is_named_at : List ℕ → ℕ → List (ℕ × GameRow) → Bool
is_named_at name place stays = nat_lt place (length stays) && bears name (slice_index_or stays place (0, row_of [] 0))

-- the first reason against admitting a row
abbrev pub refusal_by : Capacity → OpenStayList → GameRow → Option Refusal
refusal_by capacity open_stays row =
    refusal_in_order (list_any (bears row.game) open_stays.stays) (is_full_open open_stays.made open_stays.stays)
    (blocks_of capacity.cap row) (capacity.blocks - blocks_in capacity.cap open_stays.stays)

-- the open stays determine all that routing needs of the registry, and the open stays after a
-- change
pub record IsDecidedByOpen (cap : ℕ) (registry : List Stay) : Type 0 where
  pub named : (name : List ℕ) → position (has_name name) registry ≡ found_in name (open_of registry)
  pub any : (name : List ℕ) → list_any (has_name name) registry ≡ list_any (bears name) (open_of registry)
  pub many : count_by (λ entry. entry.is_open) registry ≡ length (open_of registry)
  pub blocks : blocks_in_registry cap registry ≡ blocks_in cap (open_of registry)
  pub admits : (row : GameRow) → open_of (with_admitted row registry) ≡ open_of registry ++ (length registry, row) ∷ []
  pub leaves : (stay : ℕ) → open_of (with_closed stay registry) ≡ filter (λ other. not (nat_eq other.0 stay)) (open_of registry)

abbrev pub OpenLaw : Type 0
OpenLaw = (cap : ℕ) (registry : List Stay) → IsDecidedByOpen cap registry
