-- The view of a game that runs.
use Rattle.std.specs.Prelude.{◌≡◌, ℕ, List, Some, option_map}
use Rattle.bs_board.specs.records.Record.{record_of}
use Rattle.bs_game.specs.declared.view.View.{View}
use Rattle.bs_game.specs.View.{IsFitView}

-- a view with that quota and that charge, whose last board has that record
pub record IsRunningView (most charged : ℕ) (bytes : List ℕ) (view : View) : Type 0 where
  pub fit : IsFitView view
  pub quota : view.quota ≡ most
  pub charge : view.charge ≡ charged
  pub last : option_map record_of view.last ≡ Some bytes
