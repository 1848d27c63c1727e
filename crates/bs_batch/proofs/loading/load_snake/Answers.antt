use Rattle.std.proofs.Common.{◌≤◌, arith, length, sym, ◌∙◌, ap}
use Rattle.bs_batch.proofs.LoadedSeat.{alive_loaded, begins, dead_loaded, shows_loaded}
use Rattle.bs_batch.proofs.loading.load_snake.Goals as goal

pub returns-then-not-is_living : goal.returns-then-not-is_living
returns-then-not-is_living c width height others food can small few has =
    let s = c.args.snake.now in
    let room = c.write_cells.new.room in
    let short : length s.body ≤ length room =
    omega (arith, c.write_cells.ensures.fits.0 c.if-not-write_cells.false, ap length c.as_slice.ensures, c.write_cells.auto.room) in
    let body = begins width height c.as_slice.result.now s.body room c.as_slice.ensures can.body (c.write_cells.ensures.cells c.if-not-write_cells.false) in
    let shows = shows_loaded s c.len-parts.result c.unwrap_or.result c.cause_byte.result c.killer_byte.result room c.len-parts.ensures c.unwrap_or.ensures
    (c.cause_byte.ensures can.cause) (c.killer_byte.ensures can.killer) body in
    rw c.if-not-is_living.true (dead_loaded width height others food s _ c.args.plane.now room (sym c.is_living.ensures ∙ c.if-not-is_living.true) short shows few has)

pub returns-else-not-is_living : goal.returns-else-not-is_living
returns-else-not-is_living c width height others food can small few has =
    let s = c.args.snake.now in
    let room = c.write_cells.new.room in
    let short : length s.body ≤ length room =
    omega (arith, c.write_cells.ensures.fits.0 c.if-not-write_cells.false, ap length c.as_slice.ensures, c.write_cells.auto.room) in
    let body = begins width height c.as_slice.result.now s.body room c.as_slice.ensures can.body (c.write_cells.ensures.cells c.if-not-write_cells.false) in
    let shows = shows_loaded s c.len-parts.result c.unwrap_or.result c.cause_byte.result c.killer_byte.result room c.len-parts.ensures c.unwrap_or.ensures
    (c.cause_byte.ensures can.cause) (c.killer_byte.ensures can.killer) body in
    alive_loaded width height others food s _ c.args.plane.now c.add_parts.new.plane room c.len-parts.result c.add_parts.result
    (sym c.is_living.ensures ∙ c.if-not-is_living.false) c.len-parts.ensures short can shows few has c.add_parts.ensures
