-- What each closure ensures is had of both.
use Rattle.std.proofs.Common.{arith}
use Rattle.bs_workers.proofs.team.Team.run_four.Goals as goal

pub both-requires-after_bounds : goal.both-requires-after_bounds
both-requires-after_bounds g c κs within = (omega arith, (omega arith, (c.join-later.ensures.second, c.join-later.ensures.first)))
