-- The board of turn 0.
use Rattle.std.specs.Prelude.{ℕ, List, [], ◌∷◌, None, map}
use Rattle.bs_board.specs.declared.boards.point.Point.{Point}
use Rattle.bs_board.specs.declared.boards.board.Board.{Board}
use Rattle.bs_board.specs.declared.boards.board.Mode.{Mode}
use Rattle.bs_board.specs.declared.boards.board.Mode.TheVariants.{Standard, Solo, Constrictor, Wrapped}
use Rattle.bs_board.specs.declared.boards.snake.Snake.{Snake}
use Rattle.bs_board.specs.declared.limits.TheConstants.{FULL_HEALTH}
use Rattle.bs_board.specs.commands.Setup.{Setup}

-- three parts on the starting cell, at full health
abbrev pub first_snake : List ℕ × Point → Snake
first_snake start = record {
  id = start.0;
  body = start.1 ∷ start.1 ∷ start.1 ∷ [];
  health = FULL_HEALTH;
  cause = None;
  killer = None;
  out = None;
}

-- constrictor has no food
abbrev pub first_food : Mode → List Point → List Point
first_food Standard food = food
first_food Solo food = food
first_food Constrictor food = []
first_food Wrapped food = food

unfoldable pub first_board : Setup → Board
first_board s = record {
  mode = s.mode;
  width = s.width;
  height = s.height;
  turn = 0;
  min_food = s.min_food;
  chance = s.chance;
  food = first_food s.mode s.food;
  hazards = s.hazards;
  snakes = map first_snake s.snakes;
}
