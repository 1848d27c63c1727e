-- What private contracts add to specs/commands/Setup.
use Rattle.bs_board.specs.declared.commands.setup.New.TheInside.{Inside}
use Rattle.bs_board.specs.commands.Setup.{Setup}

abbrev pub setup_in : Inside → Setup
setup_in n = record {
  mode = n.mode;
  width = n.width;
  height = n.height;
  snakes = n.snakes;
  food = n.food;
  hazards = n.hazards;
  min_food = n.min_food;
  chance = n.chance;
}
