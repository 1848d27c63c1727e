-- The hazards and the food of a move, as JSON values, and what is read of them.
use Rattle.std.proofs.Common.{◌≡◌, ◌≤◌, ℕ, ℤ, pos, negsuc, List, [], ◌∷◌, ◌++◌, Bool, true, false, Option, Some, None, codes, length, refl, ap, ◌∙◌, arith, append_assoc}
use Rattle.std.proofs.lemmas.Bool.{le-leb, ltb-true}
use Rattle.std.specs.List.{list_all}
use Rattle.json.specs.Print.{escape_byte}
use Rattle.json.specs.Tree as tree
use Rattle.json.proofs.Printed.Decimals.{IsNumber-decimal}
use Rattle.serde_json.specs.Data.{Data, number, array, object, Items, no_items, item, Members, no_members, member}
use Rattle.serde_json.specs.Find.{get, of_integer}
use Rattle.serde_json.specs.Read.{of_json, of_items, of_members}
use Rattle.serde_json.specs.Written as written_as
use Rattle.serde_json.proofs.Numbers.{number_of-decimal}
use Rattle.bs_board.specs.declared.boards.point.Point.{Point}
use Rattle.bs_board.specs.declared.limits.TheConstants.{LONGEST_SIDE, MOST_HAZARDS}
use Rattle.bs_board.specs.declared.plans.version.Version.{Version}
use Rattle.bs_board.specs.declared.plans.version.Version.TheVariants.{One, Two, Three, Five}
use Rattle.bs_board.proofs.Chains.{and_both}
use Rattle.bs_json.specs.declared.limits.TheConstants.{MOST_FOOD}
use Rattle.bs_json.specs.inner.BoardText.{coordinate_text}
use Rattle.bs_json.specs.inner.Maps.{IsMap, cells_text, given_text, is_near, is_near_cell, map_text}
use Rattle.bs_json.specs.Moves.{cells_from, map_from}
use Rattle.bs_json.specs.Setups.{cell_from}
use Rattle.bs_json.specs.Values.{each}

-- ---- a coordinate

near_number : (z : ℤ) → is_near z ≡ true → tree.HasNumbers (written_as.outline (number (of_integer z)))
near_number (pos n) near = let few = ltb-true n LONGEST_SIDE near in IsNumber-decimal n (omega arith)
near_number (negsuc n) near = absurd (let wrong : false ≡ true = near in cc)

near_back : (z : ℤ) → is_near z ≡ true → of_json (written_as.outline (number (of_integer z))) ≡ Some (number (of_integer z))
near_back (pos n) near = let few = ltb-true n LONGEST_SIDE near in rw (number_of-decimal n (omega arith)) refl
near_back (negsuc n) near = absurd (let wrong : false ≡ true = near in cc)

-- ---- cells

abbrev pub cell_members : Point → Members
cell_members cell = member (codes "x") (number (of_integer cell.x)) (member (codes "y") (number (of_integer cell.y)) no_members)

abbrev pub cells_items : List Point → Items
cells_items [] = no_items
cells_items (cell ∷ cells) = item (object (cell_members cell)) (cells_items cells)

regroup_cell : (comma start x middle y close rest end : List ℕ) → comma ++ ((start ++ (x ++ (middle ++ (y ++ close)))) ++ (rest ++ end))
    ≡ (comma ++ ((start ++ (x ++ (middle ++ (y ++ close)))) ++ rest)) ++ end
regroup_cell comma start x middle y close rest end = simp append_assoc

-- the text of these items is that of the cells
pub cells_are_written : (later : Bool) (cells : List Point) → written_as.items_text later (cells_items cells) ≡ cells_text later cells ++ codes "]"
unfolding escape_byte
cells_are_written later [] = refl
cells_are_written later (cell ∷ cells) =
    rw (cells_are_written true cells)
    (regroup_cell (written_as.comma_if later) (codes "{\"x\":") (coordinate_text cell.x) (codes ",\"y\":") (coordinate_text cell.y) (codes "}") (cells_text true cells) (codes "]"))

pub cells_have_numbers : (cells : List Point) → list_all is_near_cell cells ≡ true → tree.ItemsHaveNumbers (written_as.items_outline (cells_items cells))
cells_have_numbers [] near = tt
cells_have_numbers (cell ∷ cells) near =
    let parts = and_both (is_near_cell cell) (list_all is_near_cell cells) near in
    let own = and_both (is_near cell.x) (is_near cell.y) parts.0 in
    ((near_number cell.x own.0, (near_number cell.y own.1, tt)), cells_have_numbers cells parts.1)

pub cells_depth : (cells : List Point) → tree.items_depth (written_as.items_outline (cells_items cells)) ≤ 1
cells_depth [] = omega arith
cells_depth (cell ∷ cells) = let rest = cells_depth cells in omega arith

-- they are found as they were sent
pub cells_back : (cells : List Point) → list_all is_near_cell cells ≡ true → of_items (written_as.items_outline (cells_items cells)) ≡ Some (cells_items cells)
cells_back [] near = refl
cells_back (cell ∷ cells) near =
    let parts = and_both (is_near_cell cell) (list_all is_near_cell cells) near in
    let own = and_both (is_near cell.x) (is_near cell.y) parts.0 in
    rw (near_back cell.x own.0, near_back cell.y own.1, cells_back cells parts.1) refl

cell_read : (x y : ℤ) → is_near x ≡ true → is_near y ≡ true
    → cell_from (object (member (codes "x") (number (of_integer x)) (member (codes "y") (number (of_integer y)) no_members))) ≡ Some (record { x = x; y = y })
cell_read (pos x) (pos y) near_x near_y =
    let few_x = ltb-true x LONGEST_SIDE near_x in
    let few_y = ltb-true y LONGEST_SIDE near_y in
    rw (le-leb x 24 (omega arith), le-leb y 24 (omega arith)) refl
cell_read (pos x) (negsuc y) near_x near_y = absurd (let wrong : false ≡ true = near_y in cc)
cell_read (negsuc x) y near_x near_y = absurd (let wrong : false ≡ true = near_x in cc)

-- the reader turns the items into the cells
pub cells_read : (cells : List Point) → list_all is_near_cell cells ≡ true → each cell_from (cells_items cells) ≡ Some cells
cells_read [] near = refl
cells_read (cell ∷ cells) near =
    let parts = and_both (is_near_cell cell) (list_all is_near_cell cells) near in
    let own = and_both (is_near cell.x) (is_near cell.y) parts.0 in
    rw (cell_read cell.x cell.y own.0 own.1, cells_read cells parts.1) refl

given_read : (most : ℕ) (cells : List Point) → list_all is_near_cell cells ≡ true → length cells ≤ most → cells_from most (array (cells_items cells)) ≡ Some (Some cells)
given_read most cells near few = rw (cells_read cells near, le-leb (length cells) most few) refl

-- ---- the members of a map

abbrev pub hazards_member : Option (List Point) → Members → Members
hazards_member None more = more
hazards_member (Some cells) more = member (codes "hazards") (array (cells_items cells)) more

abbrev pub food_member : Option (List Point) → Members → Members
food_member None more = more
food_member (Some cells) more = member (codes "food") (array (cells_items cells)) more

abbrev pub map_members : Option (List Point) → Option (List Point) → Members
map_members hazards food = hazards_member hazards (food_member food no_members)

regroup_given : (name cells close more : List ℕ) → name ++ ((cells ++ close) ++ more) ≡ (name ++ (cells ++ close)) ++ more
regroup_given name cells close more = simp append_assoc

hazards_are_written : (hazards : Option (List Point)) (more : Members)
    → written_as.members_text true (hazards_member hazards more) ≡ given_text (codes ",\"hazards\":[") hazards ++ written_as.members_text true more
unfolding escape_byte
hazards_are_written None more = refl
hazards_are_written (Some cells) more =
    rw (cells_are_written false cells) (regroup_given (codes ",\"hazards\":[") (cells_text false cells) (codes "]") (written_as.members_text true more))

food_is_written : (food : Option (List Point)) (more : Members)
    → written_as.members_text true (food_member food more) ≡ given_text (codes ",\"food\":[") food ++ written_as.members_text true more
unfolding escape_byte
food_is_written None more = refl
food_is_written (Some cells) more =
    rw (cells_are_written false cells) (regroup_given (codes ",\"food\":[") (cells_text false cells) (codes "]") (written_as.members_text true more))

-- their text is that of the map
pub map_is_written : (hazards food : Option (List Point)) → written_as.members_text true (map_members hazards food) ≡ map_text hazards food
map_is_written hazards food =
    hazards_are_written hazards (food_member food no_members) ∙ ap (λ rest. given_text (codes ",\"hazards\":[") hazards ++ rest) (food_is_written food no_members)

pub map_has_numbers : (version : Version) (hazards food : Option (List Point)) → IsMap version hazards food
    → tree.MembersHaveNumbers (written_as.members_outline (map_members hazards food))
map_has_numbers version None None fit = tt
map_has_numbers version None (Some food) fit = (cells_have_numbers food fit.1.1, tt)
map_has_numbers version (Some hazards) None fit = (cells_have_numbers hazards fit.0.1, tt)
map_has_numbers version (Some hazards) (Some food) fit = (cells_have_numbers hazards fit.0.1, (cells_have_numbers food fit.1.1, tt))

pub map_depth : (hazards food : Option (List Point)) → tree.members_depth (written_as.members_outline (map_members hazards food)) ≤ 2
map_depth None None = omega arith
map_depth None (Some food) = let own = cells_depth food in omega arith
map_depth (Some hazards) None = let own = cells_depth hazards in omega arith
map_depth (Some hazards) (Some food) = let one = cells_depth hazards in let other = cells_depth food in omega arith

-- ---- what is read of a line with these members

-- the members that are found, `moves` among them
abbrev pub found_members : Data → Data → Data → Option (List Point) → Option (List Point) → Members
found_members word game moves hazards food =
    member (codes "do") word (food_member food (member (codes "game") game (hazards_member hazards (member (codes "moves") moves no_members))))

-- the members of the map go to their places
pub map_back : (version : Version) (word game moves : Data) (hazards food : Option (List Point)) → IsMap version hazards food
    → of_members (written_as.members_outline (map_members hazards food)) (found_members word game moves None None) ≡ Some (found_members word game moves hazards food)
map_back version word game moves None None fit = refl
map_back version word game moves None (Some food) fit = rw (cells_back food fit.1.1) refl
map_back version word game moves (Some hazards) None fit = rw (cells_back hazards fit.0.1) refl
map_back version word game moves (Some hazards) (Some food) fit = rw (cells_back hazards fit.0.1, cells_back food fit.1.1) refl

pub no_map : (version : Version) (d : Data) → get (codes "hazards") d ≡ None → get (codes "food") d ≡ None → map_from version d ≡ Some (None, None)
unfolding map_from
no_map One d none nothing = refl
no_map Two d none nothing = refl
no_map Three d none nothing = refl
no_map Five d none nothing = rw (none, nothing) refl

pub map_read : (version : Version) (word game moves : Data) (hazards food : Option (List Point)) → IsMap version hazards food
    → map_from version (object (found_members word game moves hazards food)) ≡ Some (hazards, food)
unfolding map_from
map_read version word game moves None None fit = no_map version (object (found_members word game moves None None)) refl refl
map_read version word game moves None (Some food) fit = rw (fit.1.0, given_read MOST_FOOD food fit.1.1 fit.1.2) refl
map_read version word game moves (Some hazards) None fit = rw (fit.0.0, given_read MOST_HAZARDS hazards fit.0.1 fit.0.2) refl
map_read version word game moves (Some hazards) (Some food) fit =
    rw (fit.0.0, given_read MOST_HAZARDS hazards fit.0.1 fit.0.2, given_read MOST_FOOD food fit.1.1 fit.1.2) refl
