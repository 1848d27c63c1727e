-- A game as its kept records.
use Rattle.std.specs.Prelude.{◌≡◌, ℕ, List, map}
use Rattle.bs_board.specs.records.Record.{record_of}
use Rattle.bs_game.specs.Game.{Game, IsGame}

-- the records are those of the game's boards
pub record IsRecorded (game : Game) (records : List (List ℕ)) : Type 0 where
  pub right : IsGame game
  pub is : records ≡ map record_of game
