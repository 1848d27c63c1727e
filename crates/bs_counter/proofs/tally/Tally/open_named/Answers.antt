use Rattle.std.proofs.Common.{rules, arith, subst, sym, refl, ◌≡◌, ◌+◌, ◌-◌, ℕ}
use Rattle.atomic_table.specs.Seated.{TableId}
use Rattle.bs_counter.specs.Keys.{AreFirstKeys}
use Rattle.bs_counter.proofs.Keeps.{opens}
use Rattle.bs_counter.proofs.Rows.{one_more_key}
use Rattle.bs_counter.proofs.tally.Tally.open_named.Goals as goal

pub vacant-requires : goal.vacant-requires
vacant-requires g c = opens g.T.Parted.part_of c.args.n (omega arith)

pub loop-part-preserved : goal.loop-part-preserved
loop-part-preserved g c =
    let same = c.split-first.ensures.seat.table in
    let at : c.split-first.result.table_id ≡ c.split-first.new.seat.table_id = search rules in
    let before = subst (λ (t : TableId). AreFirstKeys c.loop-part.part c.args.n t c.loop-part.keys.items) (sym same) c.loop-part.invariant.keys in
    record {
      seat = search rules;
      key = search rules;
      owes = c.split-first.ensures.left;
      keys = subst (AreFirstKeys (c.loop-part.part + 1) c.args.n c.split-first.new.seat.table_id) (sym c.push_reserved.ensures.items)
          (one_more_key c.loop-part.part c.args.n c.split-first.new.seat.table_id c.loop-part.keys.items _ before refl refl at);
      room = search rules;
    }

pub returns : goal.returns
returns g c =
    let last : c.loop-part.part ≡ c.args.n - 1 = omega arith in
    let more : c.args.n - 1 + 1 ≡ c.args.n = omega arith in
    let same = c.split-last.ensures.seat.table in
    let at : c.split-last.result.table_id ≡ c.split-last.new.seat.table_id = search rules in
    let first = subst (λ (t : TableId). AreFirstKeys c.loop-part.part c.args.n t c.loop-part.keys.items) (sym same) c.loop-part.invariant.keys in
    let before = subst (λ (k : ℕ). AreFirstKeys k c.args.n c.split-last.new.seat.table_id c.loop-part.keys.items) last first in
    subst (λ (k : ℕ). AreFirstKeys k c.args.n c.split-last.new.seat.table_id c.push_reserved-2.new.self.items) more
    (subst (AreFirstKeys (c.args.n - 1 + 1) c.args.n c.split-last.new.seat.table_id) (sym c.push_reserved-2.ensures.items)
    (one_more_key (c.args.n - 1) c.args.n c.split-last.new.seat.table_id c.loop-part.keys.items _ before refl refl at))
