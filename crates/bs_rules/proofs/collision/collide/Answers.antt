use Rattle.bs_rules.proofs.CollisionMeaning.{collided_is_judged}
use Rattle.bs_rules.proofs.collision.collide.Goals as goal

pub returns-clause-meaning : goal.returns-clause-meaning
returns-clause-meaning c = let e = c.judge_all.ensures in rw e (collided_is_judged c.args.board.now)
