use Rattle.std.proofs.Common.{◌∙◌, arith, length-set}
use Rattle.bs_batch.specs.inner.Collisions.{JudgesSeat}
use Rattle.bs_batch.proofs.Collided.{one_more}
use Rattle.bs_batch.proofs.collisions.judge.Goals as goal

pub loop-seat-preserved : goal.loop-seat-preserved
loop-seat-preserved c = record {
  eight = length-set _ _ _ ∙ c.loop-seat.invariant.eight;
  judged = one_more (JudgesSeat c.args.head.now c.args.bodies.now) c.loop-seat.verdicts c.loop-seat.seat c.verdict_at.result
      (omega (arith, c.loop-seat-test.true, c.from-seat-end.ensures, c.requires.seats, c.loop-seat.invariant.eight)) c.loop-seat.invariant.judged c.verdict_at.ensures;
}

pub returns : goal.returns
returns c seat within = c.loop-seat.invariant.judged seat (omega (arith, c.loop-seat-test.false, c.from-seat-end.ensures, within))
