use Rattle.std.proofs.Common.{ap, ◌∙◌}
use Rattle.std.proofs.lemmas.Result.{IfOk-weaker}
use Rattle.bs_fiber.specs.Work.{begun}
use Rattle.bs_fiber.proofs.Seen.{begun_once}
use Rattle.bs_fiber.proofs.beginning.begin_seen.Goals as goal

-- the outcome in the view that was read is the one in each view
pub returns : goal.returns
returns c =
    IfOk-weaker c.begin_on.result _ _
    (λ out is. begun_once c.args.input.now c.in_ok-view.view out c.in_ok-view.ensures.seen (is ∙ ap (begun c.in_ok-view.view) c.get.ensures))
    c.begin_on.ensures
