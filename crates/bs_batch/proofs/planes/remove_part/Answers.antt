use Rattle.std.proofs.Common.{arith}
use Rattle.bs_batch.proofs.Bytes.{counts_less}
use Rattle.bs_batch.proofs.planes.remove_part.Goals as goal

pub returns : goal.returns
returns c = counts_less c.args.cell c.args.plane.now c.put.new.plane _ c.at-count.result c.at-count.ensures c.put.ensures (omega arith)
