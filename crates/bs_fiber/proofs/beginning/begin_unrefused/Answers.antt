use Rattle.std.proofs.Common.{sym, ◌∙◌}
use Rattle.bs_fiber.proofs.Unseen.{asked_is_shown, last_is_shown, move_is_begun}
use Rattle.bs_fiber.proofs.beginning.begin_unrefused.Goals as goal

pub returns-in-Move-Some-default : goal.returns-in-Move-Some-default
returns-in-Move-Some-default c view seen =
    move_is_begun c.args.input.now c.in-Move-Some-default.field-0-0 c.in-Move-Some-default.last c.begin_move.result (sym c.get.ensures ∙ c.in-Move-Some-default.is-0)
    c.in-Move-Some-default.is-1 c.begin_move.ensures view seen

pub returns-in-Show-Some-default : goal.returns-in-Show-Some-default
returns-in-Show-Some-default c =
    last_is_shown c.args.input.now c.in-Show-Some-default.last c.begin_show.result (sym c.get.ensures ∙ c.in-Show-Some-default.is-0) c.in-Show-Some-default.is-1
    c.begin_show.ensures

pub returns-in-Turn-Some-Some : goal.returns-in-Turn-Some-Some
returns-in-Turn-Some-Some c =
    asked_is_shown c.args.input.now c.in-Turn-Some-Some.field-0-0 c.in-Turn-Some-Some.field-0-1 c.in-Turn-Some-Some.asked c.begin_show-in-Turn-Some-Some.result
    (sym c.get.ensures ∙ c.in-Turn-Some-Some.is-0) c.in-Turn-Some-Some.is-1 c.in-Turn-Some-Some.is-2 c.begin_show-in-Turn-Some-Some.ensures
