-- A move whose seats are all moved.
use Rattle.std.proofs.Common.{◌≡◌, ℕ, Some, None, refl}
use Rattle.std.specs.Prelude.{option_map}
use Rattle.bs_board.specs.declared.boards.board.Board.{Board}
use Rattle.bs_board.specs.declared.commands.command.Command.TheVariants as command
use Rattle.bs_board.specs.declared.commands.command.Word.{Word}
use Rattle.bs_board.specs.commands.Orders.{Orders}
use Rattle.bs_rules.specs.Motion.{moved_board}
use Rattle.bs_game.specs.declared.view.View.{View}
use Rattle.bs_game.specs.Joining.{IsMovedFrom}
use Rattle.bs_game.specs.inner.Joining.{view_within}
use Rattle.bs_game.specs.Reasons.{first_reason}
use Rattle.bs_game.specs.View.{IsFitView}
use Rattle.bs_game.specs.inner.View.{shown_within_quota}

-- a view that accepts the move has its own quota and charge
pub moved_from : (view : View) (orders : Orders) (moved : Board) → IsFitView view → first_reason view (command.Move orders) ≡ None
    → option_map (moved_board orders.moves) view.last ≡ Some moved → IsMovedFrom view.quota view.charge orders moved view
moved_from view orders moved fit none is = record { fit = fit; passes = none; quota = refl; charge = refl; moved = is }

-- the quota is judged by quota and charge alone
pub same_within : (quota charge : ℕ) (view : View) (word : Word) (board : Board) → view.quota ≡ quota → view.charge ≡ charge
    → shown_within_quota (view_within quota charge) word board ≡ shown_within_quota view word board
same_within quota charge view word board same_quota same_charge = rw (same_quota, same_charge) refl
