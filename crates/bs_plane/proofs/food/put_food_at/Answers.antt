use Rattle.std.proofs.Common.{true}
use Rattle.bs_plane.specs.Plane.{Changes, with_food}
use Rattle.bs_food.specs.Free.{point_at}
use Rattle.bs_plane.proofs.NewFood.{puts_food}
use Rattle.bs_plane.proofs.food.put_food_at.Goals as goal

pub returns-in_ok-extend_from_slice-in-Some : goal.returns-in_ok-extend_from_slice-in-Some
returns-in_ok-extend_from_slice-in-Some c done =
    let changes : Changes (with_food (point_at c.in-Some.x c.in-Some.y) true) c.args.plane.now c.put_food.new.self = rw (← c.food_cell.ensures) (c.put_food.ensures done) in
    puts_food c.args.place c.in-Some.x c.in-Some.y c.args.plane.now c.put_food.new.self c.args.into.now.items c.extend_from_slice.new.self.items
    c.in-Some.ensures.0 c.in-Some.ensures.1 c.in_ok-extend_from_slice-in-Some.ensures.items changes
