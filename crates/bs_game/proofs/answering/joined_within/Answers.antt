use Rattle.std.proofs.Common.{ap, ◌∙◌}
use Rattle.std.proofs.lemmas.Result.{IfOk-weaker}
use Rattle.bs_board.specs.declared.commands.command.Word.TheVariants as word
use Rattle.bs_game.specs.View.{answer_with}
use Rattle.bs_game.proofs.Acceptance.{moved_is_early, joined_is_legal, joined_is_the_answer}
use Rattle.bs_game.proofs.Joining.{same_within}
use Rattle.bs_game.proofs.answering.joined_within.Goals as goal

pub finish_turn-requires-clause-turn : goal.finish_turn-requires-clause-turn
finish_turn-requires-clause-turn c =
    let m = c.requires.1 in
    moved_is_early c.requires.0 c.args.orders.now c.args.moved m.fit m.passes m.moved

pub record_board-requires-clause-legal : goal.record_board-requires-clause-legal
record_board-requires-clause-legal c =
    let m = c.requires.1 in
    joined_is_legal c.requires.0 c.args.orders.now c.args.moved m.fit m.passes m.moved
    c.in_ok-board.board c.in_ok-board.ensures

pub returns-clause-value : goal.returns-clause-value
returns-clause-value c =
    IfOk-weaker c.record_board.result _ _
    (λ answer is view m.
    is ∙ ap answer_with (same_within c.args.quota c.args.charge view word.Move c.in_ok-board.board m.quota m.charge)
    ∙ joined_is_the_answer view c.args.orders.now c.args.moved m.fit m.passes m.moved c.in_ok-board.board c.in_ok-board.ensures)
    c.record_board.ensures.value
