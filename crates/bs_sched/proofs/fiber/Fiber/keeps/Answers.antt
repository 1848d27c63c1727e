use Rattle.std.proofs.Common.{subst}
use Rattle.bs_sched.specs.inner.Insides.{IsRightWithParts}
use Rattle.bs_sched.proofs.RightLanes.{right_lane}
use Rattle.bs_sched.proofs.fiber.Fiber.keeps.Goals as goal

pub returns : goal.returns
returns c = subst IsRightWithParts c.self.view_is (right_lane c.self.inside c.self.invariant)
