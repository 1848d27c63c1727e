use Rattle.std.proofs.Common.{arith}
use Rattle.std.proofs.lemmas.Int.{ints}
use Rattle.bs_board.proofs.records.StepRecord.{part_again}
use Rattle.bs_board.proofs.records.layout.SnakeBytes.part.Goals as goal

pub returns : goal.returns
returns c s is cells =
    part_again s c.args.self.now.body.now c.args.index _ _ is.body cells c.requires (omega (arith, ints, c.from.ensures, c.from.type_inv))
    (omega (arith, ints, c.from-2.ensures, c.from-2.type_inv))
