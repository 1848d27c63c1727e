use Rattle.bs_sched.proofs.Lanes.{begun_lane}
use Rattle.bs_sched.proofs.fiber.Fiber.begin.Goals as goal

pub returns-clause-ok : goal.returns-clause-ok
returns-clause-ok c = begun_lane c.self.inside c.args.self.now c.reserve.new.self c.args.worker c.self.view_is c.requires c.reserve.ensures.items
