-- One more act has its place, if it is a command.
use Rattle.std.proofs.Common.{length, ap, ◌∙◌}
use Rattle.bs_workers.proofs.Played.{many_placed, one_placed}
use Rattle.bs_workers.proofs.places.places_of.Goals as goal

pub loop-place-preserved : goal.loop-place-preserved
loop-place-preserved c = (
  one_placed _ _ _ _ _ c.loop-place-test.true c.index-acts-place.is c.in_ok-put_act.ensures c.loop-place.invariant.0,
  ap length c.in_ok-put_act.ensures ∙ many_placed _ _ c.loop-place.places.items ∙ c.loop-place.invariant.1,
)
