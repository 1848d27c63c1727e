use Rattle.std.proofs.Common.{arith}
use Rattle.bs_sched.proofs.Fibers.{joined_fiber}
use Rattle.bs_sched.proofs.Lanes.{joined_lane}
use Rattle.bs_sched.proofs.fiber.Fiber.join.Goals as goal

pub invariant_of-self-2 : goal.invariant_of-self-2
invariant_of-self-2 c =
    joined_fiber c.self.inside c.args.self.now c.reserve.new.self c.args.worker c.self.invariant c.self.view_is c.requires c.reserve.ensures.items
    (let room = c.in_ok-reserve.ensures.ok in omega (arith, room))

pub returns-clause-ok : goal.returns-clause-ok
returns-clause-ok c = joined_lane c.self.inside c.args.self.now c.reserve.new.self c.args.worker c.self.view_is c.requires c.reserve.ensures.items
