use Rattle.std.proofs.Common.{refl}
use Rattle.bs_batch.proofs.Judged.{dead_spared_at, is_out, lives}
use Rattle.bs_batch.proofs.collisions.verdict_at.Goals as goal

pub returns-then-head-seat-eq-ALIVE : goal.returns-then-head-seat-eq-ALIVE
returns-then-head-seat-eq-ALIVE c width height snakes shows within =
    c.verdict_of.ensures width height snakes shows within (lives c.args.head.now c.args.bodies.now width height snakes shows c.args.seat within c.if-head-seat-eq-ALIVE.true)

pub returns-else-head-seat-eq-ALIVE : goal.returns-else-head-seat-eq-ALIVE
returns-else-head-seat-eq-ALIVE c width height snakes shows within =
    rw (dead_spared_at snakes c.args.seat (is_out c.args.head.now c.args.bodies.now width height snakes shows c.args.seat within c.if-head-seat-eq-ALIVE.false)) refl
