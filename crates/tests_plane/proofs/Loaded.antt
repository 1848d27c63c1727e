-- A stepper that was made that of a legal board, and the view of a game with that last board.
use Rattle.std.proofs.Common.{◌≡◌, List, ℕ, Some, refl, sym, ap, subst, ◌∙◌}
use Rattle.std.specs.Prelude.{true, option_map}
use Rattle.bs_board.specs.declared.boards.board.Board.{Board}
use Rattle.bs_board.specs.boards.Legal.{IsLegal}
use Rattle.bs_board.specs.records.Record.{record_of}
use Rattle.bs_board.proofs.records.BoardRecord.{record_is_of_one_board}
use Rattle.bs_game.specs.declared.view.View.{View}
use Rattle.bs_game.specs.View.{IsFitView}
use Rattle.bs_plane.specs.declared.stepper.Stepper.{Stepper}
use Rattle.bs_plane.specs.Following.{Follows}
use Rattle.bs_plane.specs.Plane.{ShowsBoard}
use Rattle.bs_plane.specs.Running.{IsRunningView}

-- the stepper follows that board's record
pub loaded_follows : (stepper : Stepper) (board : Board) → IsLegal board → (stepper.is_current ≡ true → ShowsBoard board stepper.plane)
    → Follows stepper (record_of board)
loaded_follows stepper board legal shows current b is_legal is =
    subst (λ (x : Board). ShowsBoard x stepper.plane) (record_is_of_one_board board b legal is_legal is) (shows current)

-- the view is that of a game that runs, with the record of its last board
pub running : (view : View) (board : Board) (bytes : List ℕ) → IsFitView view → view.last ≡ Some board → bytes ≡ record_of board
    → (v : View) × IsRunningView view.quota view.charge bytes v
running view board bytes fit last is =
    (view, record { fit = fit; quota = refl; charge = refl; last = ap (option_map record_of) last ∙ sym (ap Some is) })
