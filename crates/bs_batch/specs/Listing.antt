-- The cells of a game as lists.
use Rattle.std.specs.Prelude.{◌≡◌, ℕ, ◌<◌, ◌≤◌, true, List, length, map, take}
use Rattle.bs_board.specs.declared.boards.board.Board.{Board}
use Rattle.bs_board.specs.declared.boards.point.Point.{Point}
use Rattle.bs_board.specs.boards.Legal.{IsLegal, is_near}
use Rattle.bs_rules.specs.Collision.{snake_at}
use Rattle.bs_batch.specs.declared.layout.Head.{Head}
use Rattle.bs_batch.specs.declared.layout.Place.{Place}
use Rattle.bs_batch.specs.Numbers.{number_of}
use Rattle.bs_batch.specs.Shown.{ShowsFood, ShowsSeats}

abbrev pub place_at : Point → Place
place_at p = record { x = p.x; y = p.y }

-- the cell of the number
abbrev pub PlacesCell : ℕ → Place → Type 0
PlacesCell number result =
    (width height : ℕ) (p : Point) → width ≤ 25 → height ≤ 25 → is_near width height p ≡ true → number ≡ number_of p → result ≡ place_at p

abbrev pub places_of : List Point → List Place
places_of = map place_at

-- the number of the cells, and the cells in their order as far as there is room
pub record IsListed (cells : List Point) (into : List Place) (result : ℕ) : Type 0 where
  pub count : result ≡ length cells
  pub places : take (length cells) into ≡ take (length into) (places_of cells)

-- the food of the legal board whose food the game shows
abbrev pub ListsFood : Head → List ℕ → List Place → ℕ → Type 0
ListsFood head food into result = (b : Board) → IsLegal b → ShowsFood head.foods food b.food → IsListed b.food into result

-- the body of a snake of the legal board that the game shows
abbrev pub ListsBody : Head → List ℕ → ℕ → List Place → ℕ → Type 0
ListsBody head bodies seat into result =
    (b : Board) (plane : List ℕ) → IsLegal b → ShowsSeats head plane bodies b → seat < length b.snakes → IsListed (snake_at b.snakes seat).body into result
