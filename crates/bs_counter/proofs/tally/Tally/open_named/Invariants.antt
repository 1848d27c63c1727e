use Rattle.std.proofs.Common.{◌≡◌, [], ◌≤◌}
use Rattle.std.specs.Prelude.{vec_capacity}
use Rattle.std.specs.Arc.{arc_value}
use Rattle.bs_counter.specs.declared.views.SeatView.TheVariants.{Owes}
use Rattle.bs_counter.specs.Tally.{IsSeatAt}
use Rattle.bs_counter.specs.Keys.{AreFirstKeys}
use Rattle.bs_counter.proofs.tally.Tally.open_named.Given as goal

-- the keys before this one are there
abbrev pub invariant-loop-part : goal.invariant-loop-part
invariant-loop-part g l = record {
  seat : IsSeatAt (arc_value l.tally).shared.table_id l.seat;
  key : (arc_value l.tally).shared.key ≡ l.n;
  owes : l.seat.me ≡ (Owes l.part l.n, []);
  keys : AreFirstKeys l.part l.n l.seat.table_id l.keys.items;
  room : l.n ≤ vec_capacity l.keys;
}
