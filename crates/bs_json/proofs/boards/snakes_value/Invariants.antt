use Rattle.std.proofs.Common.{◌≡◌, map, take}
use Rattle.serde_json.specs.View.{view}
use Rattle.bs_json.specs.Boards.{snake_data}
use Rattle.bs_json.proofs.boards.snakes_value.Given as goal

abbrev pub invariant-loop-snake : goal.invariant-loop-snake
invariant-loop-snake l = map view l.values.items ≡ map (snake_data l.snakes) (take l.snake-index l.snakes)
