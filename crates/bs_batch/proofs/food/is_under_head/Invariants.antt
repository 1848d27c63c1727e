use Rattle.std.proofs.Common.{◌≡◌, ℕ, ◌<◌, false, length}
use Rattle.bs_rules.specs.Collision.{snake_at}
use Rattle.bs_rules.specs.Feeding.{has_head_on}
use Rattle.bs_batch.specs.inner.Food.{ForCell}
use Rattle.bs_batch.proofs.food.is_under_head.Given as goal

-- no head of the seats so far is on the cell
abbrev pub invariant-loop-seat : goal.invariant-loop-seat
invariant-loop-seat l =
    ForCell l.head l.bodies l.cell (λ snakes p. (seat : ℕ) → seat < l.seat → seat < length snakes → has_head_on p (snake_at snakes seat) ≡ false)
