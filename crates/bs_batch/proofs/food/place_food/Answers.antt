use Rattle.std.proofs.Common.{◌≡◌, ◌<◌, arith, length, refl}
use Rattle.bs_food.specs.Free.{free_cells}
use Rattle.bs_batch.proofs.FoodPlaced.{free_count, free_number, new_food_is, places, room_for_one, stays_full}
use Rattle.bs_batch.proofs.food.place_food.Goals as goal
use Rattle.bs_batch.proofs.food.place_food.Goals.{else-free-gt0-via-then-free-gt0+else-count-food, else-free-gt0-via-else-free-gt0}

pub returns-then-count-food-clause-board : goal.returns-then-count-food-clause-board
returns-then-count-food-clause-board c bodies b shows listed room can =
    let head = c.args.head.now in
    let free = c.count_free-free.result in
    let of = shows.settings in
    let count = free_count head.settings c.args.plane.now b of.width of.height shows.counts free c.count_free-free.ensures in
    let some : 0 < length (free_cells b) = omega (arith, count, c.if-free-gt0.true) in
    let cell = free_number head.settings c.args.plane.now b of.width of.height shows.counts c.args.word free c.free_cell-cell.result count c.if-free-gt0.true
    c.free_cell-cell.ensures in
    let at : c.min-count.result ≡ length b.food = omega (arith, c.min-count.ensures, c.from.ensures, listed.count, c.if-count-food.true) in
    rw (new_food_is c.args.word b some)
    (places c.args.word b some head c.args.food.now c.args.plane.now c.add_food.new.plane bodies c.free_cell-cell.result c.min-count.result _ shows listed room can cell
    at refl c.add_food.ensures)

pub returns-else-free-gt0-clause-board : goal.returns-else-free-gt0-clause-board
returns-else-free-gt0-clause-board c bodies b shows listed room can =
    let head = c.args.head.now in
    let free = c.count_free-free.result in
    let of = shows.settings in
    let count = free_count head.settings c.args.plane.now b of.width of.height shows.counts free c.count_free-free.ensures in
    elim c.else-free-gt0.branch [
      | else-free-gt0-via-then-free-gt0+else-count-food w ↦
          let some : 0 < length (free_cells b) = omega (arith, count, w.if-free-gt0.true) in
          let fits = room_for_one c.args.word b some c.args.food.now can in
          absurd (omega (arith, fits, c.min-count.ensures, c.from.ensures, listed.count, w.if-count-food.false))
      | else-free-gt0-via-else-free-gt0 w ↦
          let none : length (free_cells b) ≡ 0 = omega (arith, count, w.if-free-gt0.false) in
          rw (stays_full c.args.word b none) (record { seats = shows; list = listed; long = refl })
    ]
