use Rattle.std.proofs.Common.{ap, sym, ◌∙◌, refl}
use Rattle.bs_game.specs.Reasons.{is_move}
use Rattle.bs_sched.proofs.NextParts.{none_without_record, some_on_record}
use Rattle.bs_sched.proofs.fiber.Fiber.next_parts.Goals as goal

pub returns-in-None : goal.returns-in-None
returns-in-None c = none_without_record c.args.self.now 0 refl c.in-None.ensures

pub returns-in-Some : goal.returns-in-Some
returns-in-Some c =
    some_on_record c.args.self.now c.parts_on.result c.in-Some.last.now c.in-Some.ensures
    (ap is_move (sym c.next.ensures) ∙ sym c.is_move.ensures ∙ c.if-not-is_move.false) c.parts_on.ensures.value c.parts_on.ensures.few
