use Rattle.std.proofs.Common.{◌≡◌, ◌++◌, List, All, take}
use Rattle.std.specs.List.{filter}
use Rattle.bs_board.specs.declared.boards.point.Point.{Point}
use Rattle.bs_board.specs.records.Writing.{IsByteCell}
use Rattle.bs_plane.specs.declared.cell.Cell.{Cell}
use Rattle.bs_plane.specs.Plane.{Shows}
use Rattle.bs_plane.specs.Food.{food_bytes}
use Rattle.bs_plane.proofs.food.keep_food.Given as goal

-- the food that is left of the cells so far
abbrev pub invariant-loop-index : goal.invariant-loop-index
invariant-loop-index l =
    (on : Point → Cell) (cells : List Point) → Shows on l.plane → l.food ≡ food_bytes cells → All (IsByteCell 0) cells
    → l.into.items ≡ (l.fn.into.items ++ food_bytes (filter (λ p. (on p).food) (take l.index cells)))
