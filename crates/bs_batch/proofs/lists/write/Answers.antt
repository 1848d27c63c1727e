use Rattle.std.proofs.Common.{arith}
use Rattle.bs_batch.proofs.Listed.{all_listed, none_listed, one_listed}
use Rattle.bs_batch.proofs.lists.write.Goals as goal

pub loop-index-init : goal.loop-index-init
loop-index-init c = none_listed c.args.cells.now c.args.into.now

pub loop-index-preserved : goal.loop-index-preserved
loop-index-preserved c =
    one_listed c.args.cells.now c.loop-index.index c.loop-index.into c.place_of.result (omega arith) (omega arith) c.place_of.ensures c.loop-index.invariant

pub returns-clause-places : goal.returns-clause-places
returns-clause-places c =
    all_listed c.args.cells.now c.loop-index.index c.loop-index.into (omega arith) c.loop-index.invariant
