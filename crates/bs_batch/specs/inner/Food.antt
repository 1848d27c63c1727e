-- The steps by which food that is eaten leaves the list, and new food comes into it.
use Rattle.std.specs.Prelude.{◌≡◌, ℕ, ◌+◌, ◌<◌, Bool, true, false, List, length, fold, slice_index, slice_set}
use Rattle.std.specs.List.{list_any}
use Rattle.bs_board.specs.declared.boards.board.Board.{Board}
use Rattle.bs_board.specs.declared.boards.point.Point.{Point}
use Rattle.bs_board.specs.declared.boards.snake.Snake.{Snake}
use Rattle.bs_board.specs.boards.Legal.{is_near}
use Rattle.bs_food.specs.Spawning.{with_one_food}
use Rattle.bs_rules.specs.Collision.{snake_at}
use Rattle.bs_rules.specs.Feeding.{has_head_on}
use Rattle.bs_batch.specs.declared.layout.Head.{Head}
use Rattle.bs_batch.specs.Counts.{WritesFood}
use Rattle.bs_batch.specs.Numbers.{number_of}
use Rattle.bs_batch.specs.inner.Collisions.{ShowsJudged}

abbrev pub ForCell : Head → List ℕ → ℕ → (List Snake → Point → Type 0) → Type 0
ForCell head bodies cell P =
    (width height : ℕ) (snakes : List Snake) (p : Point) → ShowsJudged head bodies width height snakes → is_near width height p ≡ true
    → cell ≡ number_of p → P snakes p

-- the snake of the seat lives and has its head on the cell
abbrev pub HasHeadAt : Head → List ℕ → ℕ → ℕ → Bool → Type 0
HasHeadAt head bodies seat cell result =
    ForCell head bodies cell (λ snakes p. seat < length snakes → result ≡ has_head_on p (snake_at snakes seat))

abbrev pub IsUnderHead : Head → List ℕ → ℕ → Bool → Type 0
IsUnderHead head bodies cell result = ForCell head bodies cell (λ snakes p. result ≡ list_any (has_head_on p) snakes)

-- the food of that index is gone, or moves to the place after those that are left
pub record KeepsFood (gone : Bool) (index left : ℕ) (food plane food' plane' : List ℕ) (left' : ℕ) : Type 0 where
  pub taken : gone ≡ true → (left' ≡ left) × (food' ≡ food) × WritesFood 0 (slice_index food index) plane plane'
  pub kept : gone ≡ false → (left' ≡ left + 1) × (food' ≡ slice_set food left (slice_index food index)) × (plane' ≡ plane)

-- one food for each word
abbrev pub with_food_by : List ℕ → Board → Board
with_food_by words b = fold (λ c word. with_one_food word c) b words
