use Rattle.std.proofs.Common.{◌≡◌, ap}
use Rattle.std.proofs.lemmas.Result.{IfOk-weaker}
use Rattle.bs_board.specs.boards.Legal.{IsLegal}
use Rattle.bs_rules.specs.Turn.{turn_of}
use Rattle.bs_rules.proofs.Movable.{legal_has_sides}
use Rattle.bs_rules.proofs.TurnLegal.{next_is_turn, turn_is_legal}
use Rattle.bs_rules.proofs.turns.turn.Goals as goal

pub move_board-requires-clause-sides : goal.move_board-requires-clause-sides
move_board-requires-clause-sides c = legal_has_sides c.args.board.now c.requires.legal

pub returns-clause-value : goal.returns-clause-value
returns-clause-value c =
    IfOk-weaker c.finish_turn.result _ (λ next. next ≡ turn_of c.args.board.now c.args.order.now)
    (λ next e. next_is_turn c.args.board.now _ next c.args.order.now _ (ap (λ o. o.moves) c.order.view_is) c.in_ok-moved.ensures e)
    c.finish_turn.ensures

pub returns-clause-legal : goal.returns-clause-legal
returns-clause-legal c =
    IfOk-weaker c.finish_turn.result _ IsLegal
    (λ next e.
    rw (next_is_turn c.args.board.now _ next c.args.order.now _ (ap (λ o. o.moves) c.order.view_is) c.in_ok-moved.ensures e)
    (turn_is_legal c.args.board.now c.args.order.now c.requires.legal c.requires.turn))
    c.finish_turn.ensures
