-- The answer to a move from the last board with all seats moved. Besides that board it needs only
-- the quota and the charge of the game.
use Rattle.std.specs.Prelude.{◌≡◌, ℕ, Some, None, option_map}
use Rattle.bs_board.specs.declared.boards.board.Board.{Board}
use Rattle.bs_board.specs.declared.commands.command.Command.TheVariants as command
use Rattle.bs_board.specs.commands.Orders.{Orders}
use Rattle.bs_rules.specs.Motion.{moved_board}
use Rattle.bs_game.specs.declared.view.View.{View}
use Rattle.bs_game.specs.Reasons.{first_reason}
use Rattle.bs_game.specs.View.{IsFitView}

-- a view with that quota and that charge that allows the move, and whose last board with all seats
-- moved is `board`
pub record IsMovedFrom (most charged : ℕ) (orders : Orders) (board : Board) (view : View) : Type 0 where
  pub fit : IsFitView view
  pub passes : first_reason view (command.Move orders) ≡ None
  pub quota : view.quota ≡ most
  pub charge : view.charge ≡ charged
  pub moved : option_map (moved_board orders.moves) view.last ≡ Some board
