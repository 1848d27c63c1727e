use Rattle.std.proofs.Common.{arith, eqb}
use Rattle.bs_batch.specs.Shown.{seat_at}
use Rattle.bs_batch.proofs.Living.{all_counted, byte_at_most, one_counted}
use Rattle.bs_batch.proofs.seats.count_living.Goals as goal

pub loop-seat-preserved : goal.loop-seat-preserved
loop-seat-preserved c =
    let cause = (seat_at c.args.head.now.seats c.loop-seat.seat).cause in
    record {
      few = omega (arith, byte_at_most (eqb cause 0), c.from-living.ensures, c.loop-seat.invariant.few, c.loop-seat-test.true, c.from-seat-end.ensures, c.requires.seats);
      count = λ snakes shows.
          one_counted snakes c.loop-seat.seat c.loop-seat.living c.from-living.result cause (omega (arith, c.loop-seat-test.true, c.from-seat-end.ensures, shows.seats))
          c.loop-seat.invariant.few (omega (arith, c.loop-seat-test.true, c.from-seat-end.ensures, c.requires.seats)) (c.loop-seat.invariant.count snakes shows) c.from-living.ensures
          (shows.causes c.loop-seat.seat (omega (arith, c.loop-seat-test.true, c.from-seat-end.ensures, shows.seats)));
    }

pub returns : goal.returns
returns c snakes shows =
    all_counted snakes c.loop-seat.seat c.loop-seat.living (omega (arith, c.loop-seat-test.false, c.from-seat-end.ensures, shows.seats)) (c.loop-seat.invariant.count snakes shows)
