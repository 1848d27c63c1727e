-- One whole turn.
use Rattle.std.specs.Prelude.{◌+◌}
use Rattle.bs_board.specs.declared.boards.board.Board.{Board}
use Rattle.bs_board.specs.declared.boards.board.Mode.{Mode}
use Rattle.bs_board.specs.declared.boards.board.Mode.TheVariants.{Standard, Solo, Constrictor, Wrapped}
use Rattle.bs_board.specs.commands.Orders.{Orders}
use Rattle.bs_modes.specs.Growth.{grown}
use Rattle.bs_food.specs.Given.{given}
use Rattle.bs_food.specs.Spawning.{spawned}
use Rattle.bs_rules.specs.Motion.{moved_board}
use Rattle.bs_rules.specs.Feeding.{fed}
use Rattle.bs_rules.specs.Hurting.{hazards_after, hurt}
use Rattle.bs_rules.specs.Elimination.{starved_or_outside}
use Rattle.bs_rules.specs.Collision.{collided}

-- food from the words, and then the food that the move gives
abbrev pub refilled : Orders → Board → Board
refilled orders b = given orders.food (spawned orders.words b)

-- after the eliminations: growth in constrictor; in the other modes new food
abbrev pub replenished : Mode → Orders → Board → Board
replenished Standard orders b = refilled orders b
replenished Solo orders b = refilled orders b
replenished Constrictor orders b = grown b
replenished Wrapped orders b = refilled orders b

-- the hazards that the move gives
abbrev pub redrawn : Orders → Board → Board
redrawn orders b = record b { hazards = hazards_after b.width b.height orders.hazards b.hazards }

-- the turn after the motion of all seats; the turn number rises, and the new hazards come last
abbrev pub finished : Orders → Board → Board
finished orders b =
    redrawn orders (record (replenished b.mode orders (collided (starved_or_outside (fed (hurt b))))) { turn = b.turn + 1 })

unfoldable pub turn_of : Board → Orders → Board
turn_of b orders = finished orders (moved_board orders.moves b)
