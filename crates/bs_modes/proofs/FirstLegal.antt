-- The board of turn 0 is legal.
use Rattle.std.proofs.Common.{◌≡◌, ℕ, ◌+◌, ◌<◌, ◌≤◌, true, List, [], ◌∷◌, length, map, get_or, refl, ◌∙◌, arith, All, zero, suc, lit≤}
use Rattle.std.proofs.lemmas.Bool.{leb-true}
use Rattle.bs_board.specs.boards.Cell.{origin, is_on_board}
use Rattle.std.proofs.lemmas.List.{get_or-map, length-map}
use Rattle.std.proofs.lemmas.List.Sums.{AllPass-from_list_all}
use Rattle.std.specs.List.{list_all}
use Rattle.bs_board.specs.declared.boards.point.Point.{Point}
use Rattle.bs_board.specs.declared.boards.board.Board.{Board}
use Rattle.bs_board.specs.declared.boards.board.Mode.{Mode}
use Rattle.bs_board.specs.declared.boards.board.Mode.TheVariants.{Standard, Solo, Constrictor, Wrapped}
use Rattle.bs_board.specs.boards.Legal.{IsLegal, IsLegalSnake, IsFreeOfFood, EachSeat}
use Rattle.bs_board.specs.commands.Setup.{Setup, is_fit_setup, is_fit_start, is_fit_food}
use Rattle.bs_modes.specs.FirstBoard.{first_board, first_food, first_snake}
use Rattle.bs_board.proofs.Chains.{and_both}
use Rattle.bs_board.proofs.Distinct.{are_distinct_map}

first_food_fits : (mode : Mode) (w h : ℕ) (food : List Point) → is_fit_food w h food ≡ true → is_fit_food w h (first_food mode food) ≡ true
first_food_fits Standard w h food fits = fits
first_food_fits Solo w h food fits = fits
first_food_fits Constrictor w h food fits = refl
first_food_fits Wrapped w h food fits = fits

first_food_free : (mode : Mode) (food : List Point) → IsFreeOfFood mode (first_food mode food)
first_food_free Standard food = tt
first_food_free Solo food = tt
first_food_free Constrictor food = refl
first_food_free Wrapped food = tt

-- the two parts after the head
parts_inside : (b : Board) (cell : Point) → is_on_board b.width b.height cell ≡ true
    → All (λ p. is_on_board b.width b.height p ≡ true) (cell ∷ cell ∷ [])
parts_inside b cell on zero d within = on
parts_inside b cell on (suc zero) d within = on
parts_inside b cell on (suc (suc k)) d within = absurd (omega arith)

first_snake_is_legal : (b : Board) (seat : ℕ) (start : List ℕ × Point) → is_fit_start b.width b.height start ≡ true
    → IsLegalSnake b seat (first_snake start)
first_snake_is_legal b seat start fits =
    let parts = and_both _ _ fits in
    let three : 3 ≤ b.turn + 3 = omega arith in
    record {
      id = parts.0;
      body = record { long = lit≤ tt; short = three; inside = parts_inside b start.1 parts.1 };
      state = record { fed = lit≤ tt; full = lit≤ tt; head = parts.1; killer = refl; out = refl };
    }

first_snakes_are_legal : (b : Board) (starts : List (List ℕ × Point)) → list_all (is_fit_start b.width b.height) starts ≡ true
    → EachSeat (IsLegalSnake b) (map first_snake starts)
first_snakes_are_legal b starts fits seat d within =
    let nobody : List ℕ × Point = ([], origin) in
    let inside : seat < length starts = rw length-map at within in
    let here : is_fit_start b.width b.height (get_or starts seat nobody) ≡ true =
    AllPass-from_list_all _ starts fits seat nobody inside in
    rw (get_or-map first_snake starts seat nobody d inside) (first_snake_is_legal b seat _ here)

pub first_board_is_legal : (s : Setup) → is_fit_setup s ≡ true → IsLegal (first_board s)
unfolding is_fit_setup first_board
first_board_is_legal s fits =
    let hazards = and_both _ _ fits in
    let food = and_both _ _ hazards.0 in
    let starts = and_both _ _ food.0 in
    let chance = and_both _ _ starts.0 in
    let minimum = and_both _ _ chance.0 in
    let sides = and_both _ _ minimum.0 in
    let cells = and_both _ _ starts.1 in
    let ids = and_both _ _ cells.0 in
    let members = and_both _ _ ids.0 in
    let count = and_both _ _ members.0 in
    let same = length-map s.snakes first_snake in
    let some : 1 ≤ length (map first_snake s.snakes) = rw same (leb-true _ _ count.0) in
    let few : length (map first_snake s.snakes) ≤ 8 = rw same (leb-true _ _ count.1) in
    record {
      limits = record { width = sides.0; height = sides.1; turn = lit≤ tt; chance = leb-true _ _ chance.1; some = some; few = few };
      food = record { fits = first_food_fits s.mode s.width s.height s.food food.1; mode = first_food_free s.mode s.food; minimum = leb-true _ _ minimum.1 };
      hazards = hazards.1;
      ids = are_distinct_map _ first_snake s.snakes ∙ ids.1;
      snakes = first_snakes_are_legal _ s.snakes members.1;
    }
