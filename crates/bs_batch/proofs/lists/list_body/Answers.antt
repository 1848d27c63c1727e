use Rattle.std.proofs.Common.{◌∙◌}
use Rattle.bs_rules.specs.Collision.{snake_at}
use Rattle.bs_batch.proofs.LoadedBoard.{body_near}
use Rattle.bs_batch.proofs.Shown.{body_shown}
use Rattle.bs_batch.proofs.lists.list_body.Goals as goal

pub returns-clause-cells : goal.returns-clause-cells
returns-clause-cells c b plane legal shows within =
    c.write.ensures.places b.width b.height (snake_at b.snakes c.args.seat).body (body_near b c.args.seat legal within)
    (c.body_of.ensures ∙ body_shown c.args.head.now.seats c.args.bodies.now b.snakes c.args.seat shows.snakes within)
