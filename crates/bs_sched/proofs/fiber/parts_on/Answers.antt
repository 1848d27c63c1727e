use Rattle.std.proofs.Common.{◌≡◌, ◌<◌, ℕ, false, subst, arith}
use Rattle.std.specs.Prelude.{nat_le}
use Rattle.std.proofs.lemmas.Bool.{lt-leb}
use Rattle.bs_board.specs.declared.limits.TheConstants.{LAST_TURN}
use Rattle.bs_sched.proofs.NextParts.{turn_parts}
use Rattle.bs_sched.proofs.fiber.parts_on.Goals as goal

pub returns-else-turn-ge-LAST_TURN-clause-value : goal.returns-else-turn-ge-LAST_TURN-clause-value
returns-else-turn-ge-LAST_TURN-clause-value c b is =
    let turn = c.turn.ensures b is in
    let below = c.if-turn-ge-LAST_TURN.false in
    let early : nat_le LAST_TURN b.turn ≡ false = lt-leb LAST_TURN b.turn (subst (λ (n : ℕ). n < LAST_TURN) turn below) in
    turn_parts b c.in-Some.parts (c.in-Some.ensures.runs b is) early (c.in-Some.ensures.value b is) (let few = c.in-Some.ensures.few.0 in omega (arith, few))
