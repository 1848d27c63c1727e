-- What a contract sees of a registry.
use Rattle.std.specs.Prelude.{ℕ, ◌+◌, ◌-◌, Bool, not, nat_eq, List, [], ◌∷◌, ◌++◌, map, slice_index_or, slice_set, length, take}
use Rattle.std.specs.List.{enumerate_from, filter}
use Rattle.bs_board.specs.plans.Plan.{GameRow, row_of}
use Rattle.bs_registry.specs.declared.registry.Listed.{Listed}
use Rattle.bs_registry.specs.OpenStays.{OpenStayList}

-- the number of rows made, and the open stays in the order of their numbers
pub record Listing (X : Type 0) : Type 0 where
  pub made : ℕ
  pub stays : List (Listed X)

module _ {X : Type 0} where
  abbrev pub listing_of : ℕ → List (Listed X) → Listing X
  listing_of made stays = record { made = made; stays = stays }

  abbrev pub row_open : Listed X → ℕ × GameRow
  row_open stay = (stay.number, stay.row)

  abbrev pub rows_open : List (Listed X) → List (ℕ × GameRow)
  rows_open = map row_open

  abbrev pub rows_in : Listing X → List (ℕ × GameRow)
  rows_in registry = rows_open registry.stays

  abbrev pub kept_in : Listing X → List X
  kept_in registry = map (λ stay. stay.kept) registry.stays

  -- without what is kept for the stays
  abbrev pub seen : Listing X → OpenStayList
  seen registry = record { made = registry.made; stays = rows_in registry }

  abbrev pub is_numbered : ℕ → Listed X → Bool
  is_numbered number stay = nat_eq stay.number number

  abbrev pub with_stay : GameRow → X → Listing X → Listing X
  with_stay row kept registry =
      record { made = registry.made + 1; stays = registry.stays ++ record { number = registry.made; row = row; kept = kept } ∷ [] }

  -- without the stay that was pushed last
  abbrev pub before_push : Listing X → Listing X
  before_push registry = record { made = registry.made - 1; stays = take (length registry.stays - 1) registry.stays }

  abbrev pub without_stay : ℕ → Listing X → Listing X
  without_stay number registry =
      record { made = registry.made; stays = filter (λ stay. not (nat_eq stay.number number)) registry.stays }

  -- what is kept for the stay at that place is `kept`
  abbrev pub with_kept : ℕ → X → Listing X → Listing X
  with_kept place kept registry =
      let at = slice_index_or (rows_in registry) place (0, row_of [] 0) in
      record { made = registry.made; stays = slice_set registry.stays place (record { number = at.0; row = at.1; kept = kept }) }

  -- rows that are all open, numbered from `first`, with what is kept for each
  abbrev pub listed_from : (GameRow → X) → ℕ → List GameRow → List (Listed X)
  listed_from kept first rows = map (λ (at : ℕ × GameRow). record { number = at.0; row = at.1; kept = kept at.1 }) (enumerate_from first rows)
