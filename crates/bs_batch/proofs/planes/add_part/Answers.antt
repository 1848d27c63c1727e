use Rattle.std.proofs.Common.{arith}
use Rattle.bs_batch.proofs.Bytes.{counts_more}
use Rattle.bs_batch.proofs.planes.add_part.Goals as goal

pub returns : goal.returns
returns c = counts_more c.args.cell c.args.plane.now c.put.new.plane _ c.at-count.result c.at-count.ensures c.put.ensures (omega arith)
