use Rattle.std.proofs.Common.{arith, refl}
use Rattle.bs_batch.proofs.StartedFood.{all_food, next_food, no_food, not_on_board, past_room, twice}
use Rattle.bs_batch.proofs.starting.place_food.Goals as goal
use Rattle.bs_batch.proofs.starting.place_food.Goals.{then-not-has-via-then-not-has, then-not-has-via-else-not-has+then-at-ge-FOOD}

pub loop-cell-init : goal.loop-cell-init
loop-cell-init c = record { settings = refl; board = no_food c.args.cells.now c.args.head.now c.args.food.now c.args.plane.now }

pub returns-then-not-has-clause-board : goal.returns-then-not-has-clause-board
returns-then-not-has-clause-board c = elim c.then-not-has.branch [
  | then-not-has-via-then-not-has w ↦
      not_on_board c.args.cells.now c.loop-cell.cell-index c.loop-cell-test.true c.args.head.now c.loop-cell.head c.args.plane.now c.loop-cell.food c.loop-cell.plane
      c.loop-cell.invariant.board c.number_of-number.result c.number_of-number.ensures c.has.result c.has.ensures w.if-not-has.true
  | then-not-has-via-else-not-has+then-at-ge-FOOD w ↦
      twice c.args.cells.now c.loop-cell.cell-index c.loop-cell-test.true c.args.head.now c.loop-cell.head c.args.plane.now c.loop-cell.food c.loop-cell.plane
      c.loop-cell.invariant.board c.number_of-number.result c.number_of-number.ensures w.at.result w.at.ensures w.if-at-ge-FOOD.true
]

pub returns-then-index-food-clause-board : goal.returns-then-index-food-clause-board
returns-then-index-food-clause-board c =
    past_room c.args.cells.now c.loop-cell.cell-index c.loop-cell-test.true c.args.head.now c.loop-cell.head c.args.plane.now c.loop-cell.food c.loop-cell.plane
    c.loop-cell.invariant.board c.number_of-number.result c.number_of-number.ensures c.from-index.result c.from-index.ensures c.if-index-food.true

pub loop-cell-preserved : goal.loop-cell-preserved
loop-cell-preserved c = record {
  settings = c.loop-cell.invariant.settings;
  board = next_food c.args.cells.now c.loop-cell.cell-index c.loop-cell-test.true c.args.head.now c.loop-cell.head c.args.plane.now c.loop-cell.food c.loop-cell.plane
      c.loop-cell.invariant.board c.number_of-number.result c.number_of-number.ensures c.from-index.result c.at.result c.add_food.new.plane c.has.result c.has.ensures
      c.if-not-has.false c.at.ensures c.if-at-ge-FOOD.false c.from-index.ensures c.if-index-food.false c.add_food.ensures;
}

pub returns-clause-board : goal.returns-clause-board
returns-clause-board c =
    all_food c.args.cells.now c.loop-cell.cell-index c.args.head.now c.args.plane.now c.loop-cell.head c.loop-cell.food c.loop-cell.plane
    (omega (arith, c.loop-cell-test.false, c.loop-cell.auto.cell-index-end)) c.loop-cell.invariant.board
