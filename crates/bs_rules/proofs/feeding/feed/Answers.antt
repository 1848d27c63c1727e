use Rattle.bs_rules.proofs.FoodEaten.{fed_leaves_food}
use Rattle.bs_rules.proofs.feeding.feed.Goals as goal

pub returns-clause-meaning : goal.returns-clause-meaning
returns-clause-meaning c = rw (c.in_ok-left.ensures, c.as_slice.ensures, c.as_slice-2.ensures) (fed_leaves_food c.args.board.now)
