use Rattle.std.proofs.Common.{arith, length, ◌*◌, ◌/◌, ◌+◌, ◌-◌, sym, ◌∙◌}
use Rattle.bs_batch.proofs.Started.{one_placed}
use Rattle.bs_batch.proofs.starting.place_snake.Goals as goal

pub returns-clause-board : goal.returns-clause-board
returns-clause-board c =
    one_placed c.args.seat (c.args.seat * (length c.args.bodies.now / 8) + length c.args.bodies.now / 8 - c.args.seat * (length c.args.bodies.now / 8))
    c.number_of-number.result c.args.cell c.args.head.now c.args.bodies.now c.args.plane.now c.add_part.new.plane c.add_part-2.new.plane c.add_part-3.new.plane
    c.write_first_parts.new.room c.requires.seat c.number_of-number.ensures (sym c.has.ensures ∙ c.if-not-has.false) (sym c.at.ensures ∙ c.if-at-ne0.false) (omega arith)
    c.write_first_parts.auto.room (c.write_first_parts.ensures.body c.if-not-write_first_parts.false) c.add_part.ensures c.add_part-2.ensures c.add_part-3.ensures
