use Rattle.std.proofs.Common.{◌≡◌, ℕ, ◌<◌, length, get_or}
use Rattle.bs_batch.specs.inner.Collisions.{JudgesSeat, spared}
use Rattle.bs_batch.proofs.collisions.judge.Given as goal

-- the verdicts on the seats so far
abbrev pub invariant-loop-seat : goal.invariant-loop-seat
invariant-loop-seat l = record {
  eight : length l.verdicts ≡ 8;
  judged : (seat : ℕ) → seat < l.seat → JudgesSeat l.head l.bodies seat (get_or l.verdicts seat spared);
}
