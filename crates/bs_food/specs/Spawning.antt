-- Where new food appears: a function of the board and the words of the move alone.
use Rattle.std.specs.Prelude.{ℕ, ◌-◌, ◌%◌, ◌==◌, if◌then◌else◌, List, [], ◌∷◌, ◌++◌, length, take, fold, nat_lt, slice_index_or}
use Rattle.bs_board.specs.declared.boards.point.Point.{Point}
use Rattle.bs_board.specs.declared.boards.board.Board.{Board}
use Rattle.bs_board.specs.boards.Cell.{origin}
use Rattle.bs_board.specs.declared.limits.TheConstants.{MOST_CHANCE}
use Rattle.bs_food.specs.Free.{free_cells}

-- the newest food comes last
abbrev pub with_new_food : Board → Point → Board
with_new_food b cell = record b { food = b.food ++ cell ∷ [] }

-- the free cell that the word selects
abbrev pub cell_by_word : ℕ → List Point → Point
cell_by_word word free = slice_index_or free (word % length free) origin

-- one food on a free cell, if there is one
unfoldable pub with_one_food : ℕ → Board → Board
with_one_food word b = if length (free_cells b) == 0 then b else with_new_food b (cell_by_word word (free_cells b))

-- one word for each food below the minimum
abbrev pub with_food_up_to_minimum : List ℕ → Board → Board
with_food_up_to_minimum words b = fold (λ c word. with_one_food word c) b (take (b.min_food - length b.food) words)

-- the first word decides whether there is food, the second where
abbrev pub with_food_by_chance : List ℕ → Board → Board
with_food_by_chance [] b = b
with_food_by_chance (_ ∷ []) b = b
with_food_by_chance (first ∷ second ∷ _) b = if nat_lt (first % MOST_CHANCE) b.chance then with_one_food second b else b

unfoldable pub spawned : List ℕ → Board → Board
spawned words b = if nat_lt (length b.food) b.min_food then with_food_up_to_minimum words b else with_food_by_chance words b
