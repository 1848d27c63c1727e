use Rattle.std.proofs.Common.{◌<◌, ◌∙◌, arith, inl, inr, length, sym}
use Rattle.std.proofs.lemmas.Bool.{cases_eq}
use Rattle.bs_rules.specs.Collision.{nobody}
use Rattle.bs_rules.specs.Feeding.{has_head_on}
use Rattle.bs_batch.proofs.FoodHeads.{none_any, some_any}
use Rattle.bs_batch.proofs.food.is_under_head.Goals as goal

pub loop-seat-preserved : goal.loop-seat-preserved
loop-seat-preserved c width height snakes p shows near is seat before within =
    elim (cases_eq seat c.loop-seat.seat) [
      | inl same ↦
          let inside : c.loop-seat.seat < length snakes = omega arith in
          rw same (sym (c.has_head_at.ensures width height snakes p shows near is inside) ∙ c.if-has_head_at.false)
      | inr other ↦ c.loop-seat.invariant width height snakes p shows near is seat (omega arith) within
    ]

pub returns-then-has_head_at : goal.returns-then-has_head_at
returns-then-has_head_at c width height snakes p shows near is =
    let inside : c.loop-seat.seat < length snakes = omega (arith, c.loop-seat-test.true, c.from-seat-end.ensures, shows.seats) in
    sym (some_any (has_head_on p) snakes c.loop-seat.seat nobody inside
    (sym (c.has_head_at.ensures width height snakes p shows near is inside) ∙ c.if-has_head_at.true))

pub returns : goal.returns
returns c width height snakes p shows near is =
    sym (none_any (has_head_on p) snakes nobody
    (λ seat within. c.loop-seat.invariant width height snakes p shows near is seat (omega (arith, c.loop-seat-test.false, c.from-seat-end.ensures, shows.seats)) within))
