use Rattle.bs_counter.proofs.Keeps.{is_set}
use Rattle.bs_counter.proofs.law.tally_law.Goals as goal

pub returns : goal.returns
returns g c n s tallied = is_set g.T.Parted.part_of n s tallied
