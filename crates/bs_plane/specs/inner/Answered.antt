-- The reason against a move, and what a stepper is after an answer.
use Rattle.std.specs.Prelude.{◌≡◌, ℕ, List, Option, Some, None, nat_le, if◌then◌else◌}
use Rattle.bs_board.specs.declared.boards.board.Board.{Board}
use Rattle.bs_board.specs.declared.commands.reply.Refusal.{Refusal}
use Rattle.bs_board.specs.declared.commands.reply.Refusal.TheVariants as refusal
use Rattle.bs_board.specs.declared.limits.TheConstants.{LAST_TURN}
use Rattle.bs_board.specs.boards.Legal.{IsLegal}
use Rattle.bs_board.specs.boards.Over.{is_over}
use Rattle.bs_board.specs.records.Record.{record_of}
use Rattle.bs_game.specs.declared.reply.Effect.{Effect}
use Rattle.bs_game.specs.declared.reply.Effect.TheVariants as effect
use Rattle.bs_plane.specs.declared.stepper.Stepper.{Stepper}
use Rattle.bs_plane.specs.Following.{Follows, IsLost}

-- why a move is refused on a board, if it is
abbrev pub move_reason : Board → Option Refusal
move_reason b = if is_over b then Some refusal.Over else (if nat_le LAST_TURN b.turn then Some refusal.Limit else None)

-- why a move is refused on the legal board with that record, if it is
abbrev pub IsMoveReason : List ℕ → Option Refusal → Type 0
IsMoveReason bytes reason = (b : Board) → IsLegal b → bytes ≡ record_of b → reason ≡ move_reason b

-- after an answer the stepper follows the record that is added; else it is of no board
abbrev pub FollowsEffect : Effect → Stepper → Type 0
FollowsEffect effect.Keep stepper = IsLost stepper
FollowsEffect (effect.Add bytes) stepper = Follows stepper bytes
FollowsEffect effect.Trim stepper = IsLost stepper
FollowsEffect effect.Drop stepper = IsLost stepper
