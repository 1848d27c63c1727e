use Rattle.std.proofs.Common.{arith, refl}
use Rattle.bs_batch.proofs.Repeated.{repeats}
use Rattle.bs_batch.proofs.turns.repeat_last.Goals as goal

pub returns-then-parts-eq0 : goal.returns-then-parts-eq0
returns-then-parts-eq0 c width height others food s shows room =
    absurd (omega (arith, c.if-parts-eq0.true, c.from-parts.ensures, shows.shows.parts, shows.body.long))

pub returns-then-parts-room : goal.returns-then-parts-room
returns-then-parts-room c width height others food s shows room =
    absurd (omega (arith, c.if-parts-room.true, c.from-parts.ensures, shows.shows.parts, room.short))

pub returns : goal.returns
returns c width height others food s shows room =
    repeats width height others food c.args.seat.now c.args.room.now c.args.plane.now s shows room c.from-parts.result _ c.add_part.new.plane c.from-parts.ensures refl
    c.add_part.ensures
