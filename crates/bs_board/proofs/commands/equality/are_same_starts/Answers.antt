use Rattle.std.proofs.lemmas.Slice.Eq.{slice_eq-Decides}
use Rattle.bs_board.proofs.commands.SameValues.{same_start}
use Rattle.bs_board.proofs.commands.equality.are_same_starts.Goals as goal

pub returns : goal.returns
returns c = slice_eq-Decides same_start c.args.starts.now c.args.others.now c.eq.result c.eq.ensures
