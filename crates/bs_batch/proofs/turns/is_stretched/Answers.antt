use Rattle.std.proofs.Common.{arith}
use Rattle.bs_batch.proofs.Grown.{fits_room, stretched_is}
use Rattle.bs_batch.proofs.turns.is_stretched.Goals as goal

pub returns-then-parts-lt2 : goal.returns-then-parts-lt2
returns-then-parts-lt2 c width height s narrow has shows = absurd (omega (arith, c.if-parts-lt2.true, c.from-parts.ensures, shows.parts, has.long))

pub returns-then-parts-room : goal.returns-then-parts-room
returns-then-parts-room c width height s narrow has shows =
    absurd (omega (arith, c.if-parts-room.true, c.from-parts.ensures, shows.parts, fits_room width height c.args.seat.now c.args.room.now s narrow has shows))

pub returns : goal.returns
returns c width height s narrow has shows = stretched_is width height c.args.seat.now c.args.room.now s narrow has shows c.from-parts.result c.from-parts.ensures
