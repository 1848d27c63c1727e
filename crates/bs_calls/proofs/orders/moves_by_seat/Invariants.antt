use Rattle.std.proofs.Common.{◌≡◌, ◌++◌, drop}
use Rattle.bs_calls.specs.BySeat.{moves_by_seat}
use Rattle.bs_calls.proofs.orders.moves_by_seat.Given as goal

-- the seats so far, and what the others add
abbrev pub invariant-loop-seat : goal.invariant-loop-seat
invariant-loop-seat l = l.given ++ moves_by_seat (drop l.seat l.bytes) (drop l.seat l.snakes) ≡ moves_by_seat l.bytes l.snakes
