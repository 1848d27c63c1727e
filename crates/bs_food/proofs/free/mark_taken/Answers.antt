use Rattle.bs_food.specs.Marks.{MarksCells, MarksSnakes}
use Rattle.bs_food.proofs.FreeCells.{unmarked_are_free}
use Rattle.bs_food.proofs.free.mark_taken.Goals as goal

pub returns : goal.returns
returns c =
    let food : MarksCells c.args.board.now.width c.args.board.now.height c.args.board.now.food c.args.taken.now c.mark_all.new.marks =
    rw (← c.as_slice-food.ensures) c.mark_all.ensures in
    let snakes : MarksSnakes c.args.board.now.width c.args.board.now.height c.args.board.now.snakes c.mark_all.new.marks c.mark_snakes.new.marks =
    rw (← c.as_slice-snakes.ensures) c.mark_snakes.ensures in
    unmarked_are_free c.args.board.now c.args.taken.now c.mark_all.new.marks c.mark_snakes.new.marks c.requires food snakes
