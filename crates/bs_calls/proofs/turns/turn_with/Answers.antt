use Rattle.std.proofs.Common.{◌≡◌, ◌∙◌, ap}
use Rattle.std.proofs.lemmas.Result.{IfOk-weaker}
use Rattle.bs_board.specs.boards.Legal.{IsLegal}
use Rattle.bs_board.specs.commands.Orders.{Orders}
use Rattle.bs_calls.specs.BySeat.{moves_by_seat, turn_with}
use Rattle.bs_calls.proofs.Rest.{next_is_turn, turn_with_is_legal}
use Rattle.bs_calls.proofs.turns.turn_with.Goals as goal

pub returns-clause-value : goal.returns-clause-value
returns-clause-value c =
    IfOk-weaker c.finish_turn.result _ (λ next. next ≡ turn_with c.args.bytes.now c.args.rest.now c.args.board)
    (λ next e.
    next_is_turn c.args.bytes.now c.args.rest.now c.args.board _ next _
    (c.in_ok-moves.ensures ∙ ap (moves_by_seat c.args.bytes.now) c.as_slice.ensures)
    c.move_board-moved.ensures e)
    c.finish_turn.ensures

pub returns-clause-legal : goal.returns-clause-legal
returns-clause-legal c =
    IfOk-weaker c.finish_turn.result _ IsLegal
    (λ next e.
    rw
    (next_is_turn c.args.bytes.now c.args.rest.now c.args.board _ next _
    (c.in_ok-moves.ensures ∙ ap (moves_by_seat c.args.bytes.now) c.as_slice.ensures)
    c.move_board-moved.ensures e)
    (turn_with_is_legal c.args.bytes.now c.args.rest.now c.args.board c.requires.legal c.requires.turn))
    c.finish_turn.ensures
