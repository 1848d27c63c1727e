use Rattle.std.proofs.Common.{◌≡◌}
use Rattle.bs_counter.specs.declared.views.SeatView.TheVariants.{Last}
use Rattle.bs_counter.specs.Tally.{IsSeatAt}
use Rattle.bs_counter.specs.Outcomes.{AreOutcomes}
use Rattle.bs_counter.proofs.finish.fetch_all.Given as goal

-- the outcomes before this part are taken
abbrev pub invariant-loop-part : goal.invariant-loop-part
invariant-loop-part g l = record {
  seat : IsSeatAt l.tally.shared.table_id l.seat;
  last : l.seat.me.0 ≡ Last l.part;
  outs : AreOutcomes g.T.Parted.part_of l.part l.outs.items;
}
