-- A move in a game that runs, and the reason against it.
use Rattle.std.proofs.Common.{◌≡◌, ℕ, ◌<◌, false, List, Option, Some, None, refl, sym, ◌∙◌, inl, inr}
use Rattle.std.specs.Prelude.{IfSome, nat_le, option_map, if◌then◌else◌}
use Rattle.std.proofs.lemmas.Bool.{cases_Bool, lt-leb}
use Rattle.bs_board.specs.declared.boards.board.Board.{Board}
use Rattle.bs_board.specs.declared.commands.command.Command.TheVariants as command
use Rattle.bs_board.specs.declared.commands.reply.Refusal.{Refusal}
use Rattle.bs_board.specs.declared.commands.reply.Refusal.TheVariants as refusal
use Rattle.bs_board.specs.declared.limits.TheConstants.{LAST_TURN}
use Rattle.bs_board.specs.boards.Legal.{IsLegal}
use Rattle.bs_board.specs.boards.Over.{is_over}
use Rattle.bs_board.specs.commands.Orders.{Orders}
use Rattle.bs_board.specs.records.Record.{record_of}
use Rattle.bs_game.specs.declared.view.View.{View}
use Rattle.bs_game.specs.Reasons.{first_reason}
use Rattle.bs_plane.specs.Running.{IsRunningView}
use Rattle.bs_plane.specs.inner.Answered.{IsMoveReason, move_reason}

-- no reason is against a move in a game that is not over, before the last turn
pub no_reason : (b : Board) → is_over b ≡ false → b.turn < LAST_TURN → None ≡ move_reason b
no_reason b on early = let before = lt-leb LAST_TURN b.turn early in rw (on, before) refl

reason_of_last : (view : View) (orders : Orders) (b : Board) → view.last ≡ Some b → first_reason view (command.Move orders) ≡ move_reason b
unfolding first_reason
reason_of_last view orders b last =
    elim (cases_Bool (is_over b)) [
      | inl over ↦ rw (last, over) refl
      | inr on ↦
          elim (cases_Bool (nat_le LAST_TURN b.turn)) [
            | inl late ↦ rw (last, on, late) refl
            | inr early ↦ rw (last, on, early) refl
          ]
    ]

module _ (bytes : List ℕ) (reason : Option Refusal) (told : IsMoveReason bytes reason) (orders : Orders) where
  reason_with : (view : View) (last : Option Board) → view.last ≡ last → IfSome last IsLegal → option_map record_of last ≡ Some bytes
      → first_reason view (command.Move orders) ≡ reason
  reason_with view None same legal of = let wrong : None ≡ Some bytes = of in absurd cc
  reason_with view (Some b) same legal of =
      let bytes_are : bytes ≡ record_of b = cc in
      reason_of_last view orders b same ∙ sym (told b legal bytes_are)

  -- it is the first reason against the move, in each view of the game
  pub reason_found : (most charged : ℕ) (view : View) → IsRunningView most charged bytes view → first_reason view (command.Move orders) ≡ reason
  reason_found most charged view of = reason_with view view.last refl of.fit.legal of.last
