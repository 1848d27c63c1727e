-- The moves of a line in the order of their ids.
use Rattle.std.specs.Prelude.{ℕ, Bool, true, List, [], ◌∷◌, Option, Some, None}
use Rattle.std.specs.Borrow.{Bor}
use Rattle.std.specs.Cmp.Lexicographic.{slice_cmp}
use Rattle.std.specs.Ordering.{match_ordering, nat_cmp}
use Rattle.bs_board.specs.Texts.{is_text_below}
use Rattle.bs_board.specs.declared.boards.point.Direction.{Direction}

-- with this move at its place; an id that is there takes its direction
abbrev pub put_move : List (List ℕ × Direction) → List ℕ × Direction → List (List ℕ × Direction)
put_move [] move = move ∷ []
put_move (first ∷ moves) move =
    match_ordering (slice_cmp nat_cmp move.0 first.0) (move ∷ first ∷ moves) ((first.0, move.1) ∷ moves) (first ∷ put_move moves move)

-- with the given moves, one after the other
abbrev pub put_moves : List (List ℕ × Direction) → List (List ℕ × Direction) → List (List ℕ × Direction)
put_moves moves [] = moves
put_moves moves (next ∷ given) = put_moves (put_move moves next) given

-- each id once, with the direction that it has last
abbrev pub in_order : List (List ℕ × Direction) → List (List ℕ × Direction)
in_order = put_moves []

-- the id is above the last one
abbrev pub is_last : List ℕ → List (List ℕ × Direction) → Bool
is_last id [] = true
is_last id (first ∷ []) = is_text_below first.0 id
is_last id (_ ∷ second ∷ rest) = is_last id (second ∷ rest)

-- the id is above this one, if there is one
abbrev pub is_above : List ℕ → Option (Bor (List ℕ)) → Bool
is_above id None = true
is_above id (Some last) = is_text_below last.now id
