use Rattle.bs_batch.proofs.LoadedBoard.{cells_loaded, food_refused}
use Rattle.bs_batch.proofs.loading.load_cells.Goals as goal

pub returns-then-not-load_food-clause-board : goal.returns-then-not-load_food-clause-board
returns-then-not-load_food-clause-board c =
    food_refused c.args.board.now c.args.head.now c.load_food.new.head c.args.plane.now c.load_food.new.plane c.args.bodies.now c.load_food.new.food c.as_slice.result.now
    c.load_food.result c.as_slice.ensures c.if-not-load_food.true c.load_food.ensures.board

pub returns-clause-board : goal.returns-clause-board
returns-clause-board c =
    cells_loaded c.args.board.now c.args.head.now c.load_food.new.head c.load_snakes.new.head c.args.plane.now c.load_food.new.plane c.load_snakes.new.plane c.args.bodies.now
    c.load_snakes.new.bodies c.load_food.new.food c.as_slice.result.now c.as_slice-2.result.now c.load_food.result c.load_snakes.result c.as_slice.ensures c.as_slice-2.ensures
    c.if-not-load_food.false c.load_snakes.auto.bodies c.load_food.ensures.board c.load_snakes.ensures.board
