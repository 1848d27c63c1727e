use Rattle.std.proofs.lemmas.Slice.Eq.{slice_eq-Decides}
use Rattle.bs_board.proofs.commands.SameValues.{same_point}
use Rattle.bs_board.proofs.commands.equality.are_same_cells.Goals as goal

pub returns : goal.returns
returns c = slice_eq-Decides same_point c.args.cells.now c.args.others.now c.eq.result c.eq.ensures
