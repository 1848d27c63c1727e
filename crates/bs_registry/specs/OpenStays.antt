-- The open stays alone, which decide all that routing needs of a registry: each with the number of
-- its row, and the number of rows made.
use Rattle.std.specs.Prelude.{ℕ, ◌+◌, Bool, ◌&&◌, not, if◌then◌else◌, List, [], ◌∷◌, length, sum_by, nat_lt, Option, Some, None}
use Rattle.bs_board.specs.Distinct.{are_distinct}
use Rattle.bs_board.specs.declared.limits.TheConstants.{MOST_ROWS}
use Rattle.bs_board.specs.plans.Plan.{GameRow}
use Rattle.bs_board.specs.Texts.{is_same_text}
use Rattle.bs_registry.specs.Blocks.{blocks_of}
use Rattle.bs_registry.specs.Stays.{Stay}
use Rattle.bs_registry.specs.declared.blocks.TheConstants.{MOST_STAYS}

pub record OpenStayList : Type 0 where
  pub made : ℕ
  pub stays : List (ℕ × GameRow)

abbrev pub open_from : ℕ → List Stay → List (ℕ × GameRow)
open_from first [] = []
open_from first (entry ∷ registry) =
    if entry.is_open then (first, entry.row) ∷ open_from (first + 1) registry else open_from (first + 1) registry

abbrev pub open_of : List Stay → List (ℕ × GameRow)
open_of = open_from 0

-- the open stays of a registry
abbrev pub open_stays_of : List Stay → OpenStayList
open_stays_of registry = record { made = length registry; stays = open_of registry }

abbrev pub bears : List ℕ → ℕ × GameRow → Bool
bears name stay = is_same_text name stay.1.game

-- no two have one name
abbrev pub are_named_once : List (ℕ × GameRow) → Bool
are_named_once = are_distinct (λ one other. is_same_text one.1.game other.1.game)

-- the number of the open stay of that name
abbrev pub found_in : List ℕ → List (ℕ × GameRow) → Option ℕ
found_in name [] = None
found_in name (stay ∷ stays) = if bears name stay then Some stay.0 else found_in name stays

abbrev pub blocks_in : ℕ → List (ℕ × GameRow) → ℕ
blocks_in cap = sum_by (λ stay. blocks_of cap stay.1)

abbrev pub is_full_open : ℕ → List (ℕ × GameRow) → Bool
is_full_open made stays = not (nat_lt (length stays) MOST_ROWS && nat_lt made MOST_STAYS)
