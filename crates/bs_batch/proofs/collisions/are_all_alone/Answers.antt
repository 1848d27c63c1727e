use Rattle.std.proofs.Common.{length, ◌<◌, arith, inl, inr}
use Rattle.std.proofs.lemmas.Bool.{cases_eq}
use Rattle.bs_batch.proofs.Collided.{all_spared}
use Rattle.bs_batch.proofs.collisions.are_all_alone.Goals as goal

pub loop-seat-preserved : goal.loop-seat-preserved
loop-seat-preserved c b shows room seat more within =
    elim (cases_eq seat c.loop-seat.seat) [
      | inl same ↦
          let inside : c.loop-seat.seat < length b.snakes = omega arith in
          let one = c.is_alone.ensures b shows room inside c.if-not-is_alone.false in
          rw same one
      | inr other ↦ c.loop-seat.invariant b shows room seat (omega arith) within
    ]

pub returns : goal.returns
returns c b shows room all =
    all_spared b (λ seat within. c.loop-seat.invariant b shows room seat (omega (arith, c.loop-seat-test.false, c.from-seat-end.ensures, shows.settings.seats)) within)
