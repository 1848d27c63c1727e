-- The command at one more place is queued, if it is for the row.
use Rattle.std.proofs.Common.{◌∙◌}
use Rattle.bs_workers.proofs.Played.{queued_at}
use Rattle.bs_workers.proofs.alone.Alone.queue.Goals as goal

pub loop-place-preserved : goal.loop-place-preserved
loop-place-preserved g c =
    let at = c.in-Some.ensures.lookup in (
      queued_at c.args.acts.now c.args.places.now c.loop-place.place-index c.in-Some.act.now c.args.row _ _ _ c.loop-place-test.true
          at.0 at.1 c.loop-place.invariant.0 c.in_ok-queue_if_for.ensures.journal,
      c.queue_if_for.ensures.worker ∙ c.loop-place.invariant.1,
    )
