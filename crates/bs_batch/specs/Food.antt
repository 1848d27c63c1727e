-- The food that is gone, and the food that appears.
use Rattle.std.specs.Prelude.{◌≡◌, ℕ, ◌*◌, ◌<◌, ◌≤◌, true, List, length, slice_index_or}
use Rattle.bs_board.specs.declared.boards.board.Board.{Board}
use Rattle.bs_board.specs.declared.boards.point.Point.{Point}
use Rattle.bs_board.specs.boards.Cell.{is_on_board}
use Rattle.bs_board.specs.commands.Setup.{is_fit_food}
use Rattle.bs_food.specs.Spawning.{spawned}
use Rattle.bs_rules.specs.Feeding.{food_left}
use Rattle.bs_batch.specs.declared.layout.Head.{Head}
use Rattle.bs_batch.specs.Shown.{HasRoom, ShowsFood, ShowsSeats}

-- the food under living heads is gone
pub record HasFoodLeft (b : Board) (head : Head) (food plane bodies : List ℕ) : Type 0 where
  pub seats : ShowsSeats head plane bodies (record b { food = food_left b.snakes b.food })
  pub list : ShowsFood head.foods food (food_left b.snakes b.food)

abbrev pub RemovesEaten : List ℕ → Head → List ℕ → List ℕ → Head → List ℕ → List ℕ → Type 0
RemovesEaten bodies head food plane head' food' plane' =
    (b : Board) → ShowsSeats head plane bodies b → ShowsFood head.foods food b.food → HasRoom 0 b → length food ≤ 1024
    → ((cell : ℕ) (d : Point) → cell < length b.food → is_on_board b.width b.height (slice_index_or b.food cell d) ≡ true)
    → HasFoodLeft b head' food' plane' bodies

-- room in the list for food on each cell, and food on distinct cells of the board
pub record CanSpawn (food : List ℕ) (b : Board) : Type 0 where
  pub low : b.height ≤ 25
  pub room : b.width * b.height ≤ length food
  pub fits : is_fit_food b.width b.height b.food ≡ true

-- the board with its new food, in the list and on the plane; the list is as long as before
pub record HasSpawned (b : Board) (food : List ℕ) (head' : Head) (food' plane' bodies : List ℕ) : Type 0 where
  pub seats : ShowsSeats head' plane' bodies b
  pub list : ShowsFood head'.foods food' b.food
  pub long : length food' ≡ length food

-- a step that changes the food of a board; no seat and no body changes
abbrev pub AddsFood : (Board → Board) → Head → List ℕ → List ℕ → Head → List ℕ → List ℕ → Type 0
AddsFood change head food plane head' food' plane' =
    (bodies : List ℕ) (b : Board) → ShowsSeats head plane bodies b → ShowsFood head.foods food b.food → HasRoom 0 b → CanSpawn food b
    → HasSpawned (change b) food head' food' plane' bodies

abbrev pub Spawns : List ℕ → Head → List ℕ → List ℕ → Head → List ℕ → List ℕ → Type 0
Spawns words = AddsFood (spawned words)
