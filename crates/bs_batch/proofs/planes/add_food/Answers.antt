use Rattle.std.proofs.Common.{◌≡◌, ◌%◌, arith, bit_and}
use Rattle.std.proofs.lemmas.Nat.{and_mask}
use Rattle.bs_batch.proofs.Bytes.{writes_food}
use Rattle.bs_batch.proofs.planes.add_food.Goals as goal

pub returns : goal.returns
returns c =
    let parts : bit_and c.at.result 127 ≡ c.at.result % 128 = and_mask c.at.result 7 in
    writes_food 128 c.args.cell c.args.plane.now c.put.new.plane _ c.at.result c.at.ensures c.put.ensures (omega arith)
