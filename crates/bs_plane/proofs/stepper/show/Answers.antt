use Rattle.bs_plane.proofs.LoadedPlane.{board_shown}
use Rattle.bs_plane.proofs.stepper.show.Goals as goal

pub returns : goal.returns
returns c done =
    board_shown c.args.board.now c.clear.new.self c.add_food.new.self c.add_hazards.new.plane c.add_snakes.new.self c.in_ok-clear.ensures
    (rw c.as_slice.ensures at (c.add_food.ensures c.if-not-add_food.false)) (c.add_hazards.ensures c.if-not-add_hazards.false)
    (rw c.as_slice-2.ensures at (c.add_snakes.ensures done))
