use Rattle.std.proofs.Common.{◌≡◌, ◌∙◌, true, false, ap, append-nil, sym}
use Rattle.bs_food.specs.Free.{point_at}
use Rattle.bs_plane.specs.declared.cell.Cell.{Cell}
use Rattle.bs_plane.proofs.food.keep_cell.Goals as goal

pub returns-in_ok-extend_from_slice-in-Some : goal.returns-in_ok-extend_from_slice-in-Some
returns-in_ok-extend_from_slice-in-Some c _ on shows =
    let same = c.in-Some.ensures.is on shows ∙ ap on c.food_cell.ensures in
    let here : (on (point_at c.args.x c.args.y)).food ≡ true = sym (ap (λ (k : Cell). k.food) same) ∙ c.if-there.true in
    rw here c.in_ok-extend_from_slice-in-Some.ensures.items

pub returns-else-there : goal.returns-else-there
returns-else-there c _ on shows =
    let same = c.in-Some.ensures.is on shows ∙ ap on c.food_cell.ensures in
    let here : (on (point_at c.args.x c.args.y)).food ≡ false = sym (ap (λ (k : Cell). k.food) same) ∙ c.if-there.false in
    rw here (sym (append-nil c.args.into.now.items))
