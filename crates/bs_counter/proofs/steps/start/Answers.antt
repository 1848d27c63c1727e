use Rattle.std.proofs.Common.{rules}
use Rattle.bs_counter.proofs.Keeps.{starts}
use Rattle.bs_counter.proofs.steps.start.Goals as goal

pub load-requires : goal.load-requires
load-requires g c = (search rules, search rules, starts g.T.Parted.part_of _ _ _ _ _ c.requires.owes)
