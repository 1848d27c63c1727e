use Rattle.std.proofs.Common.{◌≡◌, ap, take, ◌∙◌}
use Rattle.std.specs.List.{filter}
use Rattle.std.proofs.lemmas.Result.{IfOk-weaker}
use Rattle.bs_board.specs.boards.Cell.{is_on_board}
use Rattle.bs_rules.specs.Hurting.{cells_given}
use Rattle.bs_rules.proofs.HazardSteps.{take_few}
use Rattle.bs_rules.proofs.hurting.cells_given.Goals as goal

pub returns : goal.returns
returns c =
    let on = is_on_board c.args.width c.args.height in
    let cells = c.args.cells.now in
    let few = ap (λ n. take n cells) c.min.ensures ∙ take_few 2500 cells in
    IfOk-weaker c.cells_on_board.result _ (λ given. given ≡ cells_given c.args.width c.args.height cells) (λ given is. is ∙ ap (filter on) few) c.cells_on_board.ensures
