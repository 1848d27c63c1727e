use Rattle.std.proofs.Common.{◌∙◌, arith}
use Rattle.bs_food.specs.Free.{row_of_cells}
use Rattle.bs_batch.proofs.FreeRows.{length_more, zeros}
use Rattle.bs_batch.proofs.food.count_free.Goals as goal

pub loop-row-preserved : goal.loop-row-preserved
loop-row-preserved c = record {
  few = omega (arith, c.free_in-free.ensures.few, c.loop-row.invariant.few);
  count = λ byte has.
      let i = c.loop-row.row in
      let width = c.args.settings.now.width in
      let here = c.free_in-free.ensures.count byte has (omega (arith, c.loop-row-test.true, c.from-row-end.ensures)) ∙ zeros byte (row_of_cells width i) in
      let more = length_more byte width i in
      let few = c.free_in-free.ensures.few in
      let before = c.loop-row.invariant.count byte has in
      omega arith;
}
