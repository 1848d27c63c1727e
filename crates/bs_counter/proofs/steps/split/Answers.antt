use Rattle.std.proofs.Common.{rules, ap}
use Rattle.bs_counter.proofs.Keeps.{splits}
use Rattle.bs_counter.proofs.steps.split.Goals as goal

pub split_seat-requires : goal.split_seat-requires
split_seat-requires g c = (search rules, search rules, splits g.T.Parted.part_of _ _ _ _ _ c.requires.some (ap (λ m. m.0) c.requires.owes))
