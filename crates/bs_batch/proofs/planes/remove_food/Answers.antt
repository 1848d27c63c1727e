use Rattle.std.proofs.Common.{◌≡◌, ◌%◌, arith, bit_and}
use Rattle.std.proofs.lemmas.Nat.{and_mask}
use Rattle.bs_batch.proofs.Bytes.{writes_food}
use Rattle.bs_batch.proofs.planes.remove_food.Goals as goal

pub returns : goal.returns
returns c =
    let parts : bit_and c.at-count.result 127 ≡ c.at-count.result % 128 = and_mask c.at-count.result 7 in
    writes_food 0 c.args.cell c.args.plane.now c.put.new.plane _ c.at-count.result c.at-count.ensures c.put.ensures (omega arith)
