-- The contents of a `move` command, and their limits.
use Rattle.std.specs.Prelude.{◌≡◌, ℕ, ◌≤◌, ◌<◌, ◌^◌, Bool, true, ◌&&◌, List, [], ◌∷◌, length, All, Option, None, option_map, find}
use Rattle.std.specs.Borrow.{Bor}
use Rattle.bs_board.specs.declared.boards.point.Direction.{Direction}
use Rattle.bs_board.specs.declared.boards.point.Point.{Point}
use Rattle.bs_board.specs.declared.limits.TheConstants.{MOST_WORDS}
use Rattle.bs_board.specs.Distinct.{are_distinct}
use Rattle.bs_board.specs.Texts.{IdsAreTexts, is_same_text, is_text_below}

pub record Orders : Type 0 where
  pub moves : List (List ℕ × Direction)
  pub words : List ℕ
  -- the hazards from the end of the turn on; none: as before
  pub hazards : Option (List Point)
  -- food that is added at the end of the turn
  pub food : Option (List Point)

-- a move that gives no hazards and no food
abbrev pub orders_of : List (List ℕ × Direction) → List ℕ → Orders
orders_of moves words = record { moves = moves; words = words; hazards = None; food = None }

abbrev pub are_distinct_moves : List (List ℕ × Direction) → Bool
are_distinct_moves = are_distinct (λ a b. is_same_text a.0 b.0)

-- at most 32 words of 32 bits
pub record AreFitWords (words : List ℕ) : Type 0 where
  pub few : length words ≤ MOST_WORDS
  pub small : All (λ word. word < 2 ^ 32) words

-- within the limits, with distinct ids
pub record IsFitOrders (orders : Orders) : Type 0 where
  pub texts : IdsAreTexts orders.moves
  pub distinct : are_distinct_moves orders.moves ≡ true
  pub words : AreFitWords orders.words

-- the direction of the first entry with that id
abbrev pub given_to : List (List ℕ × Direction) → List ℕ → Option Direction
given_to moves id = option_map (λ m. m.1) (find (λ m. is_same_text m.0 id) moves)

-- the moves that these entries are, whose ids are borrowed
abbrev pub moves_in : List (Bor (List ℕ) × Direction) → List (List ℕ × Direction)
moves_in [] = []
moves_in (entry ∷ entries) = (entry.0.now, entry.1) ∷ moves_in entries

-- each id is above the one before it
abbrev pub is_ascending : List (List ℕ × Direction) → Bool
is_ascending [] = true
is_ascending (_ ∷ []) = true
is_ascending (first ∷ second ∷ rest) = is_text_below first.0 second.0 && is_ascending (second ∷ rest)
