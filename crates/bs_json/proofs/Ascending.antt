-- The directions of an object's members are in ascending order of their ids.
use Rattle.std.proofs.Common.{◌≡◌, ℕ, List, [], ◌∷◌, true, Option, Some, None, option_map, String, Global, Less, string_bytes, string_cmp, refl}
use Rattle.std.specs.List.{AllByRecursion, cons_option}
use Rattle.std.specs.List.Sorted.{IsStrictlySortedBy}
use Rattle.std.specs.Map.{keys_of}
use Rattle.serde_json.specs.View.{view, members_view}
use Rattle.serde_json.specs.declared.value.Value.{Value}
use Rattle.bs_board.specs.declared.boards.point.Direction.{Direction}
use Rattle.bs_board.specs.commands.Orders.{is_ascending}
use Rattle.bs_board.specs.Texts.{is_text_below}
use Rattle.bs_json.specs.Moves.{direction_from, directions_of}

abbrev pub Given : Type 0
Given = List (List ℕ × Direction)

-- the first id, if there is one, is above
abbrev pub FirstIsAbove : List ℕ → Given → Type 0
FirstIsAbove id [] = Unit {0}
FirstIsAbove id (first ∷ rest) = is_text_below id first.0 ≡ true

pub ascends_after : (id : List ℕ) (d : Direction) (rest : Given) → FirstIsAbove id rest → is_ascending rest ≡ true → is_ascending ((id, d) ∷ rest) ≡ true
ascends_after id d [] above up = refl
ascends_after id d (first ∷ rest) above up = rw above up

-- the entry of one member, then those of the later ones
abbrev after : List ℕ → Option Direction → Given → Given
after id d rest = cons_option (option_map (λ direction. (id, direction)) d) rest

above_or_later : (id next : List ℕ) (d : Option Direction) (rest : Given) → is_text_below id next ≡ true → FirstIsAbove id rest → FirstIsAbove id (after next d rest)
above_or_later id next None rest below later = later
above_or_later id next (Some d) rest below later = below

first_is_above : (id : String Global) (entries : List (String Global × Value)) → AllByRecursion (λ next. string_cmp id next ≡ Less) (keys_of entries) → FirstIsAbove (string_bytes id) (directions_of (members_view entries))
first_is_above id [] h = tt
first_is_above id (e ∷ entries) h =
    above_or_later (string_bytes id) (string_bytes e.0) (direction_from (view e.1)) _ (rw h.0 refl) (first_is_above id entries h.1)

ascends_with : (id : List ℕ) (d : Option Direction) (rest : Given) → FirstIsAbove id rest → is_ascending rest ≡ true → is_ascending (after id d rest) ≡ true
ascends_with id None rest above up = up
ascends_with id (Some d) rest above up = ascends_after id d rest above up

pub directions_ascend : (entries : List (String Global × Value)) → IsStrictlySortedBy string_cmp (keys_of entries) → is_ascending (directions_of (members_view entries)) ≡ true
unfolding IsStrictlySortedBy
directions_ascend [] h = refl
directions_ascend (e ∷ entries) h =
    ascends_with (string_bytes e.0) (direction_from (view e.1)) _ (first_is_above e.0 entries h.0) (directions_ascend entries h.1)
