use Rattle.std.proofs.Common.{ap, ◌∙◌}
use Rattle.bs_fiber.specs.declared.out.Out.TheVariants.{Answered}
use Rattle.bs_fiber.proofs.Unseen.{refused_unseen}
use Rattle.bs_fiber.proofs.beginning.begin.Goals as goal

pub returns-in-Some : goal.returns-in-Some
returns-in-Some c view seen =
    ap Answered c.refuse.ensures
    ∙ refused_unseen c.args.input.now c.get.result.now c.is_some.result c.is_some-2.result c.check_unseen.result c.in-Some.reason c.get.ensures c.is_some.ensures
    c.is_some-2.ensures c.check_unseen.ensures.told c.check_unseen.ensures.untold c.in-Some.is view seen
