-- A registry of stays: the row of each, and whether it is open. It alone decides which rows may be
-- admitted; the state of the games does not matter.
use Rattle.std.specs.Prelude.{ℕ, ◌-◌, Bool, true, false, ◌&&◌, not, if◌then◌else◌, List, [], ◌∷◌, ◌++◌, length, count_by, sum_by, nat_lt, nat_le, slice_index_or, slice_set, Option, Some, None}
use Rattle.std.specs.List.{list_any}
use Rattle.bs_board.specs.declared.limits.TheConstants.{MOST_ROWS}
use Rattle.bs_board.specs.plans.Plan.{GameRow, row_of}
use Rattle.bs_board.specs.Texts.{is_same_text}
use Rattle.bs_registry.specs.Blocks.{blocks_of}
use Rattle.bs_registry.specs.declared.refusal.Refusal.{Refusal}
use Rattle.bs_registry.specs.declared.refusal.Refusal.TheVariants as refused
use Rattle.bs_registry.specs.declared.blocks.TheConstants.{MOST_STAYS}

-- the memory that a core is opened with: `blocks` blocks of `cap` bytes
pub record Capacity : Type 0 where
  pub cap : ℕ
  pub blocks : ℕ

pub record Stay : Type 0 where
  pub row : GameRow
  pub is_open : Bool

abbrev pub open_stay : GameRow → Stay
open_stay row = record { row = row; is_open = true }

abbrev pub closed_stay : Stay → Stay
closed_stay entry = record { row = entry.row; is_open = false }

abbrev pub no_stay : Stay
no_stay = open_stay (row_of [] 0)

abbrev pub stay_at : List Stay → ℕ → Stay
stay_at registry stay = slice_index_or registry stay no_stay

-- the stay exists and is open
abbrev pub is_in : List Stay → ℕ → Bool
is_in registry stay = nat_lt stay (length registry) && (stay_at registry stay).is_open

abbrev pub with_admitted : GameRow → List Stay → List Stay
with_admitted row registry = registry ++ open_stay row ∷ []

abbrev pub with_closed : ℕ → List Stay → List Stay
with_closed stay registry = slice_set registry stay (closed_stay (stay_at registry stay))

-- the stay is open under that name
abbrev pub has_name : List ℕ → Stay → Bool
has_name name entry = entry.is_open && is_same_text name entry.row.game

-- the blocks that are reserved for the open stays
abbrev pub blocks_in_registry : ℕ → List Stay → ℕ
blocks_in_registry cap = sum_by (λ entry. if entry.is_open then blocks_of cap entry.row else 0)

abbrev pub is_full : List Stay → Bool
is_full registry =
    not (nat_lt (count_by (λ entry. entry.is_open) registry) MOST_ROWS && nat_lt (length registry) MOST_STAYS)

abbrev pub has_room : Capacity → List Stay → GameRow → Bool
has_room capacity registry row =
    nat_le (blocks_of capacity.cap row) (capacity.blocks - blocks_in_registry capacity.cap registry)

-- no open stay has the row's name, one more may be open, and its blocks are free besides those
-- reserved for the open stays
abbrev pub may_admit_in : Capacity → List Stay → GameRow → Bool
may_admit_in capacity registry row =
    not (list_any (has_name row.game) registry) && (not (is_full registry) && has_room capacity registry row)

-- The reasons against a row, in the order in which the core and its caller judge them: an open stay
-- has the name, no more stays can be opened, fewer blocks are free than it needs.
abbrev pub refusal_in_order : Bool → Bool → ℕ → ℕ → Option Refusal
refusal_in_order named full needed left =
    if named then Some refused.NameOpen
    else (if full then Some refused.Full
    else (if nat_le needed left then None else Some (refused.Short left)))

-- the first reason against admitting a row
abbrev pub first_refusal : Capacity → List Stay → GameRow → Option Refusal
first_refusal capacity registry row =
    refusal_in_order (list_any (has_name row.game) registry) (is_full registry) (blocks_of capacity.cap row)
    (capacity.blocks - blocks_in_registry capacity.cap registry)
