use Rattle.std.proofs.Common.{ap, ◌∙◌, bit_and, slice_index}
use Rattle.std.proofs.lemmas.Bool.{eqb-true}
use Rattle.bs_batch.proofs.Alone.{alone_is_spared}
use Rattle.bs_batch.proofs.Collided.{out_is_spared}
use Rattle.bs_batch.proofs.collisions.is_alone.Goals as goal

pub returns-then-head-seat-ne-ALIVE : goal.returns-then-head-seat-ne-ALIVE
returns-then-head-seat-ne-ALIVE c b shows room within alone =
    out_is_spared c.args.head.now c.args.plane.now c.args.bodies.now b c.args.seat shows within c.if-head-seat-ne-ALIVE.true

pub returns : goal.returns
returns c b shows room within alone =
    alone_is_spared c.args.head.now c.args.plane.now c.args.bodies.now b c.args.seat c.head_of-cell.result c.at.result shows room within
    (c.head_of-cell.ensures ∙ ap (λ body. slice_index body 0) c.body_of.ensures) c.at.ensures (eqb-true (bit_and c.at.result 127) 1 alone)
