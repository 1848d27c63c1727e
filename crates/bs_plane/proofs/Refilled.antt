-- The food of a turn: what is left, on the plane and in bytes.
use Rattle.std.proofs.Common.{◌≡◌, ℕ, zero, suc, ◌<◌, Bool, true, false, not, ◌&&◌, cond, List, [], ◌∷◌, ◌++◌, length, map, get_or, eqb, refl, sym, ap, subst, ◌∙◌, arith, Result, IfOk, IsTrue}
use Rattle.std.specs.List.{filter, list_any}
use Rattle.std.proofs.lemmas.Bool.{eqb-true}
use Rattle.std.proofs.lemmas.Result.{IfOk-weaker}
use Rattle.std.proofs.lemmas.List.Elements.{Contains-get_or}
use Rattle.std.proofs.lemmas.Map.Views.{any-filter_same}
use Rattle.bs_board.specs.declared.boards.board.Board.{Board}
use Rattle.bs_board.specs.declared.boards.board.Mode.{Mode}
use Rattle.bs_board.specs.declared.boards.board.Mode.TheVariants.{Constrictor}
use Rattle.bs_board.specs.declared.boards.point.Direction.{Direction}
use Rattle.bs_board.specs.declared.boards.point.Point.{Point}
use Rattle.bs_board.specs.declared.boards.snake.Snake.{Snake}
use Rattle.bs_board.specs.boards.Cell.{is_same_cell, origin}
use Rattle.bs_board.specs.records.Layout.{cells_of}
use Rattle.bs_rules.specs.Feeding.{food_left, has_head_on}
use Rattle.bs_rules.proofs.CollisionTest.{has_cell}
use Rattle.bs_plane.specs.declared.plane.Plane.{Plane}
use Rattle.bs_plane.specs.Plane.{Changes, ShowsBoard, contents}
use Rattle.bs_plane.specs.Food.{HasFood, food_bytes}
use Rattle.bs_plane.proofs.EatenFood.{without_eaten}
use Rattle.bs_board.specs.declared.records.layout.BoardBytes.{BoardBytes}
use Rattle.bs_board.specs.commands.Orders.{Orders}
use Rattle.bs_rules.specs.Turn.{refilled}
use Rattle.bs_plane.specs.Onward.{ShowsSnakes, onward}
use Rattle.bs_plane.specs.Turn.{fed_onward, refilled_in}
use Rattle.bs_plane.specs.inner.Turn.{Refills}
use Rattle.bs_plane.proofs.KeptFood.{food_length}
use Rattle.bs_plane.proofs.Places.{same_cells, same_point}

either_order : (a b : Bool) → (a && b) ≡ (b && a)
either_order true true = refl
either_order true false = refl
either_order false true = refl
either_order false false = refl

abbrev is_left : List Snake → Point → Bool
is_left snakes cell = not (list_any (has_head_on cell) snakes)

left_there : (snakes : List Snake) (food : List Point) (p : Point) → (list_any (is_same_cell p) food && is_left snakes p) ≡ list_any (is_same_cell p) (food_left snakes food)
left_there snakes food p =
    either_order (list_any (is_same_cell p) food) (is_left snakes p)
    ∙ sym (any-filter_same (is_same_cell p) (is_left snakes) (is_left snakes p) (λ q same. ap (is_left snakes) (sym (same_point p q same))) food)

-- the plane without the food that was eaten
pub eaten_shown : (b : Board) (snakes : List Snake) (plane plane' : Plane) → ShowsSnakes b snakes plane → Changes (without_eaten snakes) plane plane'
    → ShowsBoard (record b { food = food_left snakes b.food; snakes = snakes }) plane'
eaten_shown b snakes plane plane' shows changes = record {
  width = changes.width ∙ shows.width;
  height = changes.height ∙ shows.height;
  cells = same_cells plane'.width plane'.height _ _ plane'.cells.items
      (λ p. ap (λ f. record (contents b.food (cells_of b.hazards) snakes p) { food = f }) (left_there snakes b.food p))
      (changes.cells (contents b.food (cells_of b.hazards) snakes) shows.cells);
}

left_in : (all : List Point) (test : Point → Bool) (cells : List Point) → ((i : ℕ) → i < length cells → list_any (is_same_cell (get_or cells i origin)) all ≡ true)
    → filter (λ p. list_any (is_same_cell p) all && test p) cells ≡ filter test cells
left_in all test [] each = refl
left_in all test (p ∷ cells) each =
    let here : list_any (is_same_cell p) all ≡ true = each zero (omega arith) in
    let rest = left_in all test cells (λ i within. each (suc i) (omega arith)) in
    let kept : List Point = filter (λ q. list_any (is_same_cell q) all && test q) cells in
    ap (λ t. cond {A = List Point} (t && test p) (p ∷ kept) kept) here ∙ ap (λ l. cond {A = List Point} (test p) (p ∷ l) l) rest

-- the cells of the food that the plane has then
pub left_is : (snakes : List Snake) (food hazards : List Point) → filter (λ p. (without_eaten snakes (contents food hazards snakes) p).food) food ≡ food_left snakes food
left_is snakes food hazards =
    left_in food (is_left snakes) food (λ i within. (has_cell food (get_or food i origin)).1 (Contains-get_or food i origin within))

-- what is left, on the plane and in bytes
pub has_left : (b : Board) (snakes : List Snake) (plane plane' : Plane) (food list : List ℕ) → ShowsSnakes b snakes plane → Changes (without_eaten snakes) plane plane'
    → food ≡ [] → list ≡ food ++ food_bytes (filter (λ p. (without_eaten snakes (contents b.food (cells_of b.hazards) snakes) p).food) b.food)
    → HasFood (record b { food = food_left snakes b.food; snakes = snakes }) plane' list
has_left b snakes plane plane' food list shows changes none kept = record {
  shows = eaten_shown b snakes plane plane' shows changes;
  written = kept ∙ ap (λ l. l ++ food_bytes (filter (λ p. (without_eaten snakes (contents b.food (cells_of b.hazards) snakes) p).food) b.food)) none
      ∙ ap food_bytes (left_is snakes b.food (cells_of b.hazards));
}

no_cells : (cells : List Point) → length (food_bytes cells) ≡ 0 → cells ≡ []
no_cells [] none = refl
no_cells (p ∷ cells) none = let long = food_length (p ∷ cells) in absurd (omega arith)

-- where there is no food, none is left
pub has_none : (b : Board) (moves : List (List ℕ × Direction)) (plane : Plane) (there food : List ℕ)
    → there ≡ food_bytes b.food → eqb (length there) 0 ≡ true → ShowsSnakes b (map (onward b moves) b.snakes) plane → food ≡ []
    → HasFood (fed_onward b moves) plane food
has_none b moves plane there food is empty shows none =
    let gone : b.food ≡ [] = no_cells b.food (ap length (sym is) ∙ eqb-true (length there) 0 empty) in
    let left : food_left (map (onward b moves) b.snakes) b.food ≡ b.food = ap (food_left (map (onward b moves) b.snakes)) gone ∙ sym gone in
    let same : fed_onward b moves ≡ record b { snakes = map (onward b moves) b.snakes } = ap (λ l. record b { food = l; snakes = map (onward b moves) b.snakes }) left in
    let has : HasFood (record b { snakes = map (onward b moves) b.snakes }) plane food = record {
      shows = record { width = shows.width; height = shows.height; cells = shows.cells };
      written = none ∙ ap food_bytes (sym gone);
    } in
    subst (λ (x : Board). HasFood x plane food) (sym same) has

-- in constrictor there is no food, and none is added
pub stays_empty : (orders : Orders) (b : Board) (moves : List (List ℕ × Direction)) (plane : Plane) (there food : List ℕ) → b.mode ≡ Constrictor
    → there ≡ food_bytes b.food → eqb (length there) 0 ≡ true → ShowsSnakes b (map (onward b moves) b.snakes) plane → food ≡ []
    → HasFood (refilled_in b.mode orders (fed_onward b moves)) plane food
stays_empty orders b moves plane there food mode is empty shows none =
    let same : refilled_in b.mode orders (fed_onward b moves) ≡ fed_onward b moves = ap (λ m. refilled_in m orders (fed_onward b moves)) mode in
    subst (λ (x : Board). HasFood x plane food) (sym same) (has_none b moves plane there food is empty shows none)

-- in the other modes food is added
pub refills_in : {E : Type 0} (mode : Mode) (orders : Orders) → ((b : Board) → refilled_in mode orders b ≡ refilled orders b) → (result : Result Bool E) (parts : BoardBytes)
    → parts.mode ≡ mode → (heads : List Point) (old : Plane) (food : List ℕ) (new : Plane) (food' : List ℕ)
    → IfOk result (λ done. IsTrue done → Refills (λ b. refilled orders b) parts heads old food new food')
    → IfOk result (λ done. IsTrue done → Refills (λ b. refilled_in b.mode orders b) parts heads old food new food')
refills_in mode orders is result parts same heads old food new food' refills =
    IfOk-weaker result _ _
    (λ done filled ok b moves of bytes shows listed none.
    let own : b.mode ≡ mode = sym of.mode ∙ same in
    let x = fed_onward b moves in
    let more : refilled_in b.mode orders x ≡ refilled orders x = ap (λ m. refilled_in m orders x) own ∙ is x in
    subst (λ (y : Board). HasFood y new food') (sym more) (filled ok b moves of bytes shows listed none))
    refills
