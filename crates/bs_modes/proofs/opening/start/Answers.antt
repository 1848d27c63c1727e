use Rattle.bs_modes.specs.FirstBoard.{first_board}
use Rattle.bs_modes.proofs.FirstLegal.{first_board_is_legal}
use Rattle.bs_modes.proofs.opening.start.Goals as goal

pub returns-clause-legal : goal.returns-clause-legal
unfolding first_board
returns-clause-legal c =
    let legal = first_board_is_legal _ c.new.invariant in
    rw (c.in_ok-first_food.ensures, c.in_ok-copy_hazards.ensures, c.in_ok-first_snakes.ensures, c.as_slice.ensures) legal
