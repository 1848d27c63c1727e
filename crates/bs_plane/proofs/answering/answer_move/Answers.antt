use Rattle.std.proofs.Common.{◌∙◌, Some, arith, sym}
use Rattle.bs_board.specs.declared.commands.command.Command.TheVariants as command
use Rattle.bs_game.proofs.Acceptance.{early_reason}
use Rattle.bs_plane.proofs.AnsweredMove.{refused, shown}
use Rattle.bs_plane.proofs.RunningGame.{reason_found}
use Rattle.bs_plane.proofs.answering.answer_move.Goals as goal

pub returns-in-Err-clause-value : goal.returns-in-Err-clause-value
returns-in-Err-clause-value c view of =
    c.refuse.ensures
    ∙ sym (early_reason view (command.Move c.args.orders.now) c.in-Err.reason
    (reason_found c.args.last.now (Some c.in-Err.reason) (rw c.in-Err.is at c.in_ok-next.ensures.reason) c.args.orders.now c.args.quota c.args.charge view of))

pub returns-then-charge-quota-clause-value : goal.returns-then-charge-quota-clause-value
returns-then-charge-quota-clause-value c view of =
    c.refuse-then-charge-quota.ensures
    ∙ refused c.args.quota c.args.charge c.args.orders.now c.args.last.now (rw c.in-Ok.is at c.in_ok-next.ensures.reason) c.in-Ok.next (rw c.in-Ok.is at c.in_ok-next.ensures.value)
    c.record_charge.result c.record_charge.ensures.value view of c.if-charge-quota.true

pub returns-in-Ok-added-clause-value : goal.returns-in-Ok-added-clause-value
returns-in-Ok-added-clause-value c view of =
    shown c.args.quota c.args.charge c.args.orders.now c.args.last.now (rw c.in-Ok.is at c.in_ok-next.ensures.reason) c.in-Ok.next (rw c.in-Ok.is at c.in_ok-next.ensures.value)
    c.record_charge.result c.record_charge.ensures.value view of c.in-Ok-added.answer c.in-Ok-added.ensures (omega (arith, c.if-charge-quota.false))
