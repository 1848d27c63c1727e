use Rattle.std.proofs.Common.{◌∙◌, map, sym}
use Rattle.std.proofs.lemmas.Result.{IfOk-weaker}
use Rattle.bs_board.specs.records.Layout.{cells_of}
use Rattle.bs_plane.specs.Onward.{onward}
use Rattle.bs_plane.specs.Plane.{contents}
use Rattle.bs_plane.proofs.EatenFood.{eaten_gone, without_eaten}
use Rattle.bs_plane.proofs.Refilled.{has_left, has_none}
use Rattle.bs_plane.proofs.stepper.leave_food.Goals as goal

pub returns-then-is_empty : goal.returns-then-is_empty
returns-then-is_empty c done b moves of bytes shows listed none =
    has_none b moves c.args.plane.now c.args.board.now.food.now c.args.food.now.items of.food (sym c.is_empty.ensures ∙ c.if-is_empty.true) shows none

pub returns : goal.returns
returns c =
    IfOk-weaker c.keep_food.result _ _
    (λ done keeps is b moves of bytes shows listed none.
    let snakes = map (onward b moves) b.snakes in
    let changes = eaten_gone snakes c.args.heads.now c.args.plane.now c.remove_eaten.new.plane listed (c.remove_eaten.ensures c.if-not-remove_eaten.false) in
    let kept = keeps is (without_eaten snakes (contents b.food (cells_of b.hazards) snakes)) b.food
    (changes.cells (contents b.food (cells_of b.hazards) snakes) shows.cells) of.food bytes in
    has_left b snakes c.args.plane.now c.remove_eaten.new.plane c.args.food.now.items c.keep_food.new.into.items shows changes none kept)
    c.keep_food.ensures
