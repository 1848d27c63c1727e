use Rattle.std.proofs.Common.{rules, sym, ap, ◌∙◌}
use Rattle.std.specs.Prelude.{Some}
use Rattle.bs_board.specs.records.Kept.{IsLegalRecord}
use Rattle.bs_board.proofs.records.KeptRecord.{only_board_in}
use Rattle.bs_game.specs.declared.reply.Effect.{Effect}
use Rattle.bs_sched.specs.inner.LastBoards.{last_after}
use Rattle.bs_sched.proofs.fiber.change_last.Goals as goal

pub returns-in-Add : goal.returns-in-Add
returns-in-Add c =
    let kept : IsLegalRecord c.in-Add.record = search rules in
    ap Some (c.of_record.ensures kept.board kept.legal kept.is ∙ sym (only_board_in c.in-Add.record kept.board kept.legal kept.is))
    ∙ ap (λ (e : Effect). last_after e c.args.last.now) (sym c.in-Add.is)
