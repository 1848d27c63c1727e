-- The contents of a `new` command, and their limits.
use Rattle.std.specs.Prelude.{ℕ, Bool, ◌&&◌, List, length, nat_le, Option, None}
use Rattle.std.specs.List.{list_all}
use Rattle.bs_board.specs.declared.boards.point.Point.{Point}
use Rattle.bs_board.specs.declared.boards.board.Mode.{Mode}
use Rattle.bs_board.specs.declared.boards.hazards.Hazards.{Hazards}
use Rattle.bs_board.specs.declared.limits.TheConstants.{LONGEST_SIDE, MOST_CHANCE, MOST_MIN_FOOD, MOST_SNAKES, SHORTEST_SIDE}
use Rattle.bs_board.specs.boards.Hazards.{are_fit_hazards}
use Rattle.bs_board.specs.boards.Cell.{is_same_cell, is_on_board, are_distinct_cells}
use Rattle.bs_board.specs.Texts.{is_same_text, is_short_text}
use Rattle.bs_board.specs.Distinct.{are_distinct}

pub record Setup : Type 0 where
  pub mode : Mode
  pub width : ℕ
  pub height : ℕ
  pub snakes : List (List ℕ × Point)
  pub food : List Point
  pub hazards : Option Hazards
  pub min_food : ℕ
  pub chance : ℕ

-- a game without hazards
abbrev pub setup_of : Mode → ℕ → ℕ → List (List ℕ × Point) → List Point → ℕ → ℕ → Setup
setup_of mode width height snakes food min_food chance = record {
  mode = mode;
  width = width;
  height = height;
  snakes = snakes;
  food = food;
  hazards = None;
  min_food = min_food;
  chance = chance;
}

abbrev pub is_side : ℕ → Bool
is_side cells = nat_le SHORTEST_SIDE cells && nat_le cells LONGEST_SIDE

abbrev pub is_fit_start : ℕ → ℕ → List ℕ × Point → Bool
is_fit_start width height start = is_short_text start.0 && is_on_board width height start.1

-- 1 to 8 snakes on the board, with distinct ids and starting cells
abbrev pub are_fit_starts : ℕ → ℕ → List (List ℕ × Point) → Bool
are_fit_starts width height starts =
    nat_le 1 (length starts) && nat_le (length starts) MOST_SNAKES
    && list_all (is_fit_start width height) starts
    && are_distinct (λ s t. is_same_text s.0 t.0) starts
    && are_distinct (λ s t. is_same_cell s.1 t.1) starts

-- distinct cells of the board
abbrev pub is_fit_food : ℕ → ℕ → List Point → Bool
is_fit_food width height food = list_all (is_on_board width height) food && are_distinct_cells food

unfoldable pub is_fit_setup : Setup → Bool
is_fit_setup s =
    is_side s.width && is_side s.height && nat_le s.min_food MOST_MIN_FOOD && nat_le s.chance MOST_CHANCE
    && are_fit_starts s.width s.height s.snakes && is_fit_food s.width s.height s.food
    && are_fit_hazards s.width s.height s.hazards
