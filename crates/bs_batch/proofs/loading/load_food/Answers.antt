use Rattle.std.proofs.Common.{◌≤◌, arith, length, refl}
use Rattle.bs_batch.proofs.LoadedAll.{all_food_added, one_food_added}
use Rattle.bs_batch.proofs.loading.load_food.Goals as goal

pub loop-cell-preserved : goal.loop-cell-preserved
loop-cell-preserved c =
    one_food_added c.args.cells.now c.loop-cell.cell-index c.number_of.result c.args.plane.now c.loop-cell.plane c.add_food.new.plane c.loop-cell-test.true c.number_of.ensures
    c.add_food.ensures c.loop-cell.invariant

pub returns-clause-board : goal.returns-clause-board
returns-clause-board c width height near small has =
    let short : length c.args.cells.now ≤ length c.write_cells.new.room = omega (arith, c.write_cells.ensures.fits.0 c.if-not-write_cells.false, c.write_cells.auto.room) in
    record {
      fits = (λ _. short, λ _. refl);
      shows = λ _. record { count = refl; listed = c.write_cells.ensures.cells c.if-not-write_cells.false width height near };
      bytes = λ _. all_food_added c.args.cells.now c.loop-cell.cell-index width height c.args.plane.now c.loop-cell.plane c.loop-cell-test.false near has c.loop-cell.invariant;
      rest = refl;
    }
