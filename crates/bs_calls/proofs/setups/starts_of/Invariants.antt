use Rattle.std.proofs.Common.{◌≡◌, ◌++◌, drop}
use Rattle.bs_calls.specs.Setups.{starts_from}
use Rattle.bs_calls.proofs.setups.starts_of.Given as goal

-- the seats so far, and the others
abbrev pub invariant-loop-seat : goal.invariant-loop-seat
invariant-loop-seat l = l.starts.items ++ starts_from l.seat (drop l.seat l.cells) ≡ starts_from 0 l.cells
